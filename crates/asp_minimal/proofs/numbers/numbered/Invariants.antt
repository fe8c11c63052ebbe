use Rattle.std.proofs.Common.{◌≡◌, length, take}
use Rattle.asp_bits.specs.Places.{true_places}
use Rattle.asp_minimal.specs.Numbers.{numbers_from}
use Rattle.asp_minimal.proofs.numbers.numbered.Given as goal

-- the places so far have their numbers, and the next number is how many of them are true
abbrev pub invariant-loop-place : goal.invariant-loop-place
invariant-loop-place l = record {
  numbered : l.numbers.items ≡ numbers_from 0 (take l.place l.bits);
  counted : l.next ≡ length (true_places (take l.place l.bits));
}
