use Rattle.std.proofs.Common.{◌≡◌, ◌≤◌, map}
use Rattle.asp_clauses.specs.Kept.{AreNumbered, new_number, is_firm}
use Rattle.asp_clauses.proofs.compact.number_firm.Given as goal

abbrev pub invariant-loop-clause : goal.invariant-loop-clause
invariant-loop-clause l = AreNumbered l.fn.watches l.watches (map is_firm l.kinds) l.from l.clause × (l.next ≡ new_number (map is_firm l.kinds) l.clause) × (l.from ≤ l.clause)
