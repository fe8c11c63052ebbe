use Rattle.std.proofs.Common.{◌≡◌, ◌<◌, ℕ, false, eqb, length, get_or}
use Rattle.std.specs.Int.{bit_at}
use Rattle.asp_plain.proofs.sets.interpretation.Given as goal

-- the values so far are the bits
abbrev pub invariant-loop-atom : goal.invariant-loop-atom
invariant-loop-atom l = record {
  places : length l.bits ≡ l.count;
  values : (k : ℕ) → k < l.atom → get_or l.bits k false ≡ eqb (bit_at l.set k) 1;
}
