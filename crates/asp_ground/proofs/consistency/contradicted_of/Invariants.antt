use Rattle.std.proofs.Common.{◌+◌, ◌-◌, length}
use Rattle.asp_ground.proofs.Walking.{Walks}
use Rattle.asp_ground.proofs.consistency.contradicted_of.Given as goal

-- what is left of both lists gets shorter
abbrev pub decreases-loop-at : goal.decreases-loop-at
decreases-loop-at l = (length l.signatures - l.at) + (length l.signatures - l.other)

abbrev pub invariant-loop-at : goal.invariant-loop-at
invariant-loop-at l = Walks l.found.items l.signatures l.at l.other
