use Rattle.std.proofs.Common.{◌≡◌, length, take}
use Rattle.asp_bits.specs.Places.{true_places}
use Rattle.level_tests.proofs.minimality.count_true.Given as goal

-- how many places so far are true
abbrev pub invariant-loop-place : goal.invariant-loop-place
invariant-loop-place l = l.count ≡ length (true_places (take l.place l.bits))
