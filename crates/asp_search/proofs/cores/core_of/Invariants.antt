use Rattle.std.proofs.Common.{◌≡◌, ◌≤◌, length, slice_index}
use Rattle.asp_search.specs.Fit.{AreKept}
use Rattle.asp_search.specs.Cores.{IsTrace}
use Rattle.asp_search.proofs.cores.core_of.Given as goal

abbrev pub invariant-loop-end : goal.invariant-loop-end
invariant-loop-end l =
    (l.end ≤ length l.trail.steps) × AreKept l.initial.seen l.initial.heap l.seen l.heap × IsTrace l.book.clauses l.trail.steps l.seen.marked l.end l.core.items × (slice_index l.core.items 0 ≡ l.failed)

abbrev pub decreases-loop-end : goal.decreases-loop-end
decreases-loop-end l = l.end
