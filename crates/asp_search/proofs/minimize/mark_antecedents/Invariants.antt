use Rattle.std.proofs.Common.{◌≡◌}
use Rattle.asp_search.specs.Learned.{base_of}
use Rattle.asp_search.specs.Minimize.{MarksBelow}
use Rattle.asp_search.proofs.minimize.mark_antecedents.Given as goal

abbrev pub invariant-loop-other : goal.invariant-loop-other
invariant-loop-other l =
    (l.seen.codes ≡ l.initial.seen.codes) × MarksBelow (base_of l.book l.levels.loose) l.trail.steps l.levels.top l.initial.seen.marked l.seen.marked
