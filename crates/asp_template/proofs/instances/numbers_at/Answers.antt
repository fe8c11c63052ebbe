use Rattle.std.proofs.Common.{arith}
use Rattle.asp_template.specs.Templates.{number_at}
use Rattle.asp_template.proofs.Steps.{maps_item, maps_all}
use Rattle.asp_template.proofs.instances.numbers_at.Goals as goal

pub loop-atom-preserved : goal.loop-atom-preserved
loop-atom-preserved c =
    maps_item (number_at c.args.size c.args.ranks.now) c.args.atoms.now c.loop-atom.atom-index c.atom-item.result c.loop-atom.numbers.items c.push.new.self.items c.number_at.result
    (omega arith) c.atom-item.is c.loop-atom.invariant c.in_ok-push.ensures.items c.number_at.ensures

pub returns : goal.returns
returns c =
    maps_all (number_at c.args.size c.args.ranks.now) c.args.atoms.now c.loop-atom.atom-index c.loop-atom.numbers.items c.from_vec.result
    (omega arith) c.from_vec.ensures c.loop-atom.invariant
