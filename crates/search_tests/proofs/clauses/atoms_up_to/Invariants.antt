use Rattle.std.proofs.Common.{◌≡◌, ℕ, ◌+◌, ◌*◌, ◌<◌, vec_len, slice_index}
use Rattle.search_tests.proofs.clauses.atoms_up_to.Given as goal

abbrev pub invariant-loop-atom : goal.invariant-loop-atom
invariant-loop-atom l = (vec_len l.lits ≡ l.atom) × ((k : ℕ) → k < l.atom → slice_index l.lits.items k ≡ 2 * k + 1)
