use Rattle.std.proofs.Common.{length}
use Rattle.asp_clauses.proofs.WalkLemmas.{IsVisiting}
use Rattle.asp_clauses.proofs.propagation.visit.Given as goal

abbrev pub invariant-walk : goal.invariant-walk
invariant-walk l = IsVisiting l.fn.watches l.watches l.fn.trail l.trail l.falsified l.previous l.clause l._turn (length l.fn.watches.records)
