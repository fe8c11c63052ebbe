use Rattle.std.proofs.Common.{map, arith}
use Rattle.asp_safety.specs.Variables.{term_of}
use Rattle.asp_template.specs.Compiled.{slot_of}
use Rattle.asp_template.proofs.Steps.{maps_item, maps_all}
use Rattle.asp_template.proofs.compiler.slots_of.Goals as goal

pub loop-term-preserved : goal.loop-term-preserved
loop-term-preserved c =
    maps_item (slot_of c.args.constants.now (map term_of c.args.variables.now)) c.args.terms.now c.loop-term.term-index c.term-item.result c.loop-term.slots.items c.push.new.self.items c.slot_of.result
    (omega arith) c.term-item.is c.loop-term.invariant c.in_ok-push.ensures.items c.slot_of.ensures

pub returns : goal.returns
returns c =
    maps_all (slot_of c.args.constants.now (map term_of c.args.variables.now)) c.args.terms.now c.loop-term.term-index c.loop-term.slots.items c.from_vec.result
    (omega arith) c.from_vec.ensures c.loop-term.invariant
