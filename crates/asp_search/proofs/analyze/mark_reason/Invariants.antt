use Rattle.std.proofs.Common.{◌≤◌, take}
use Rattle.asp_search.specs.Analysis.{MarksReason}
use Rattle.asp_search.specs.Fit.{AreKept}
use Rattle.asp_search.proofs.analyze.mark_reason.Given as goal

abbrev pub invariant-loop-literal : goal.invariant-loop-literal
invariant-loop-literal l =
    (l.pending ≤ l.literal-index) × AreKept l.initial.seen l.initial.heap l.seen l.heap × MarksReason l.trail.steps (take l.literal-index l.literal-items) l.level l.initial.seen.marked l.seen.marked l.pending
