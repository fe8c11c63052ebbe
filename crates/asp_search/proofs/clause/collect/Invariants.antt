use Rattle.std.proofs.Common.{◌≡◌, take}
use Rattle.asp_search.specs.Clause.{Collects}
use Rattle.asp_search.proofs.clause.collect.Given as goal

abbrev pub invariant-loop-literal : goal.invariant-loop-literal
invariant-loop-literal l =
    (l.seen.codes ≡ l.initial.seen.codes) × Collects (take l.literal-index l.clause) l.seen.marked
