use Rattle.std.proofs.Common.{◌≡◌, ℕ, ◌/◌, ◌<◌, ◌≤◌, length}
use Rattle.asp_clauses.specs.Trail.{literal_at}
use Rattle.asp_search.proofs.jump.unwind.Given as goal

abbrev pub invariant-loop-end : goal.invariant-loop-end
invariant-loop-end l =
    (l.end ≤ length l.trail.steps)
    × (l.heap.atoms ≡ l.initial.heap.atoms)
    × (l.front ≤ l.initial.front)
    × ((place : ℕ) → l.end ≤ place → place < length l.trail.steps → l.front ≤ literal_at l.trail.steps place / 2)

abbrev pub decreases-loop-end : goal.decreases-loop-end
decreases-loop-end l = l.end
