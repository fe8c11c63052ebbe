use Rattle.std.proofs.Common.{map, arith}
use Rattle.asp_safety.specs.Variables.{term_of}
use Rattle.asp_template.specs.Compiled.{atom_template}
use Rattle.asp_template.proofs.Steps.{maps_item, maps_all}
use Rattle.asp_template.proofs.compiler.atom_templates.Goals as goal

pub loop-atom-preserved : goal.loop-atom-preserved
loop-atom-preserved c =
    maps_item (atom_template c.args.vocabulary.now (map term_of c.args.variables.now)) c.args.atoms.now c.loop-atom.atom-index c.atom-item.result c.loop-atom.templates.items c.push.new.self.items c.in_ok-atom_template.field-0
    (omega arith) c.atom-item.is c.loop-atom.invariant c.in_ok-push.ensures.items c.in_ok-atom_template.ensures

pub returns : goal.returns
returns c =
    maps_all (atom_template c.args.vocabulary.now (map term_of c.args.variables.now)) c.args.atoms.now c.loop-atom.atom-index c.loop-atom.templates.items c.from_vec.result
    (omega arith) c.from_vec.ensures c.loop-atom.invariant
