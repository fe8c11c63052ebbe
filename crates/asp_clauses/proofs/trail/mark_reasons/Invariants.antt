use Rattle.std.proofs.Common.{take}
use Rattle.asp_clauses.specs.Kept.{MarksReasons}
use Rattle.asp_clauses.proofs.trail.mark_reasons.Given as goal

abbrev pub invariant-loop-place : goal.invariant-loop-place
invariant-loop-place l = MarksReasons (take l.len l.steps) l.place l.fn.stays l.stays
