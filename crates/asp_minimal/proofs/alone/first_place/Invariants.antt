use Rattle.std.proofs.Common.{◌≡◌, ℕ, ◌<◌, false}
use Rattle.asp_bits.specs.Places.{true_places}
use Rattle.asp_defs.specs.Interpretations.{holds}
use Rattle.asp_minimal.proofs.alone.first_place.Given as goal

-- no place so far is true
abbrev pub invariant-loop-place : goal.invariant-loop-place
invariant-loop-place l = (a : ℕ) → a < l.place → holds (true_places l.bits) a ≡ false
