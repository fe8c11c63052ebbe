use Rattle.std.proofs.Common.{◌≡◌}
use Rattle.asp_clauses.specs.Kept.{AreNumbered, new_number}
use Rattle.asp_clauses.proofs.compact.number_clauses.Given as goal

abbrev pub invariant-loop-clause : goal.invariant-loop-clause
invariant-loop-clause l = AreNumbered l.fn.watches l.watches l.stays 0 l.clause × (l.next ≡ new_number l.stays l.clause)
