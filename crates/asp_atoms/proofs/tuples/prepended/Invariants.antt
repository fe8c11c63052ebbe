use Rattle.std.proofs.Common.{◌≡◌, ◌∷◌, take}
use Rattle.asp_atoms.proofs.tuples.prepended.Given as goal

abbrev pub invariant-loop-constant : goal.invariant-loop-constant
invariant-loop-constant l = l.tuple.items ≡ l.first ∷ take l.constant-index l.rest
