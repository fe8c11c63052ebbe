use Rattle.std.proofs.Common.{◌≡◌, ℕ, ◌<◌, ◌≤◌, ◌||◌, not, length}
use Rattle.asp_clauses.specs.Kept.{mark_of, kind_at}
use Rattle.asp_clauses.proofs.compact.keep_added.Given as goal

abbrev pub invariant-loop-clause : goal.invariant-loop-clause
invariant-loop-clause l = (length l.stays ≡ length l.fn.stays) × ((clause : ℕ) → clause < l.clause → mark_of l.stays clause ≡ (mark_of l.fn.stays clause || not (kind_at l.kinds clause).learned)) × ((clause : ℕ) → l.clause ≤ clause → mark_of l.stays clause ≡ mark_of l.fn.stays clause)
