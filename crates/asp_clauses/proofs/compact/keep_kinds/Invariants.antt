use Rattle.std.proofs.Common.{◌≤◌, map}
use Rattle.asp_clauses.specs.Kept.{is_kept, no_kind, from_on}
use Rattle.asp_clauses.proofs.KeepLemmas.{IsKeeping}
use Rattle.asp_clauses.proofs.compact.keep_kinds.Given as goal

abbrev pub invariant-loop-clause : goal.invariant-loop-clause
invariant-loop-clause l = IsKeeping no_kind (from_on l.from (map is_kept l.records)) l.fn.kinds.items l.kinds.items l.clause l.count × (l.from ≤ l.clause)
