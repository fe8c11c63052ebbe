use Rattle.std.proofs.Common.{ℕ, ◌*◌, ◌<◌, slice_index}
use Rattle.search_tests.proofs.literals.are_codes.Given as goal

abbrev pub invariant-loop-literal : goal.invariant-loop-literal
invariant-loop-literal l = (k : ℕ) → k < l.literal-index → slice_index l.literals k < 2 * l.atoms
