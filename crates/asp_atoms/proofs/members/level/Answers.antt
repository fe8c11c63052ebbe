use Rattle.std.proofs.Common.{arith}
use Rattle.asp_atoms.proofs.Positions.{item_in}
use Rattle.asp_atoms.proofs.members.level.Goals as goal

pub numbers-requires-clause-small : goal.numbers-requires-clause-small
numbers-requires-clause-small c =
    c.requires.small c.predicate-item.result (item_in c.args.predicates.now c.loop-predicate.predicate-index c.predicate-item.result (omega arith) c.predicate-item.is)
