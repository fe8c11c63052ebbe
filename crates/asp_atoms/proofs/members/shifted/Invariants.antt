use Rattle.std.proofs.Common.{◌≡◌, take}
use Rattle.asp_atoms.specs.Tuples.{shifted}
use Rattle.asp_atoms.proofs.members.shifted.Given as goal

abbrev pub invariant-loop-rank : goal.invariant-loop-rank
invariant-loop-rank l = l.out.items ≡ shifted l.weight l.numbers (take l.rank-index l.ranks)
