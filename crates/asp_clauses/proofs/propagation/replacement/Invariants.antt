use Rattle.std.proofs.Common.{ℕ, ◌+◌, ◌<◌, ◌≤◌, get_or}
use Rattle.asp_clauses.specs.Literal.{negated}
use Rattle.asp_clauses.specs.Records.{row_at}
use Rattle.asp_clauses.specs.Trail.{IsPlaced}
use Rattle.asp_clauses.proofs.propagation.replacement.Given as goal

abbrev pub invariant-loop-index : goal.invariant-loop-index
invariant-loop-index l = (i : ℕ) → 2 ≤ i → i < l.index → IsPlaced l.trail.steps (negated (get_or (row_at l.watches.records l.clause) (3 + i) 0))
