use Rattle.std.proofs.Common.{◌≡◌}
use Rattle.asp_search.specs.Learned.{base_of}
use Rattle.asp_search.specs.Minimize.{MarksBelow}
use Rattle.asp_search.proofs.minimize.mark_causes.Given as goal

abbrev pub invariant-loop-place : goal.invariant-loop-place
invariant-loop-place l =
    (l.seen.codes ≡ l.initial.seen.codes) × MarksBelow (base_of l.book l.levels.loose) l.trail.steps l.levels.top l.initial.seen.marked l.seen.marked
