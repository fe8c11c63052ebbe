use Rattle.std.proofs.Common.{◌≢◌, ◌⊎◌, ℕ, take}
use Rattle.std.specs.List.{Contains}
use Rattle.asp_clauses.specs.Literal.{negated}
use Rattle.asp_search.specs.Analysis.{IsFixed}
use Rattle.asp_search.proofs.analyze.is_redundant.Given as goal

abbrev pub invariant-loop-other : goal.invariant-loop-other
invariant-loop-other l =
    (other : ℕ) → Contains (take l.other-index l.other-items) other → other ≢ l.literal → IsFixed l.trail.steps (negated other) ⊎ Contains l.seen.marked (negated other)
