use Rattle.std.proofs.Common.{◌-◌}
use Rattle.asp_decide.specs.Total.{IsTotal}
use Rattle.asp_decide.proofs.decide.first_unassigned.Given as goal

abbrev pub invariant-loop-front : goal.invariant-loop-front
invariant-loop-front l = IsTotal l.front l.trail.steps

abbrev pub decreases-loop-front : goal.decreases-loop-front
decreases-loop-front l = l.heap.atoms - l.front
