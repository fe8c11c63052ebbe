use Rattle.std.proofs.Common.{◌≡◌}
use Rattle.asp_search.specs.Analysis.{IsWalk}
use Rattle.asp_search.specs.Fit.{AreKept}
use Rattle.asp_search.specs.Learned.{base_of, IsGrounded}
use Rattle.asp_search.proofs.analyze.resolve_conflict.Given as goal

abbrev pub invariant-loop-left : goal.invariant-loop-left
invariant-loop-left l =
    AreKept l.initial.seen l.initial.heap l.seen l.heap × IsWalk (base_of l.book l.loose) l.trail.steps l.seen.marked l.level l.end l.pending × IsGrounded (base_of l.book l.loose) l.book.clauses l.trail.steps × (l.activity ≡ l.initial.activity)

abbrev pub decreases-loop-left : goal.decreases-loop-left
decreases-loop-left l = l.end
