use Rattle.std.proofs.Common.{ℕ, ◌/◌, ◌<◌, ◌≢◌, slice_index}
use Rattle.sat_bench.proofs.literals.are_ascending.Given as goal

abbrev pub invariant-loop-literal : goal.invariant-loop-literal
invariant-loop-literal l = record {
  below : (k : ℕ) → k < l.literal-index → slice_index l.literals k / 2 < l.next;
  different : (j : ℕ) → j < l.literal-index → (i : ℕ) → i < j → slice_index l.literals i / 2 ≢ slice_index l.literals j / 2;
}
