use Rattle.std.proofs.Common.{ℕ, ◌≡◌, ◌<◌, true}
use Rattle.asp_bits.specs.Places.{true_places}
use Rattle.asp_defs.specs.Interpretations.{holds}
use Rattle.cube_tests.proofs.answering.is_within.Given as goal

-- each atom so far is in the second set where it is in the first
abbrev pub invariant-loop-atom : goal.invariant-loop-atom
invariant-loop-atom l = (a : ℕ) → a < l.atom → holds (true_places l.set) a ≡ true → holds (true_places l.other) a ≡ true
