use Rattle.std.proofs.Common.{◌≡◌, ◌≤◌, map}
use Rattle.asp_clauses.specs.Kept.{new_number, is_kept, from_on}
use Rattle.asp_clauses.proofs.compact.count_kept.Given as goal

abbrev pub invariant-loop-clause : goal.invariant-loop-clause
invariant-loop-clause l = (l.count ≡ new_number (from_on l.from (map is_kept l.records)) l.clause) × (l.from ≤ l.clause)
