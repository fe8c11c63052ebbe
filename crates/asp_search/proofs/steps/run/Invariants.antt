use Rattle.std.proofs.Common.{◌-◌, ◌^◌}
use Rattle.asp_search.specs.Solver.{Stays}
use Rattle.asp_search.proofs.steps.run.Given as goal

abbrev pub invariant-loop-outcome : goal.invariant-loop-outcome
invariant-loop-outcome l = Stays l.initial.solver l.solver

abbrev pub decreases-loop-outcome : goal.decreases-loop-outcome
decreases-loop-outcome l = 3 ^ l.solver.trail.atoms - l.solver.trail.count
