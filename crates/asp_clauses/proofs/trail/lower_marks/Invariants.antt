use Rattle.asp_clauses.proofs.MarkLemmas.{LoweredFrom}
use Rattle.asp_clauses.proofs.trail.lower_marks.Given as goal

abbrev pub invariant-loop-level : goal.invariant-loop-level
invariant-loop-level l = LoweredFrom l.fn.marks l.marks l.count l.visit l.level

abbrev pub decreases-loop-level : goal.decreases-loop-level
decreases-loop-level l = l.level
