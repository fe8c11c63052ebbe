use Rattle.std.proofs.Common.{◌-◌, vec_len}
use Rattle.asp_search.specs.Found.{MovesCursor}
use Rattle.asp_search.proofs.steps.next_assumption.Given as goal

abbrev pub invariant-loop-solver : goal.invariant-loop-solver
invariant-loop-solver l = MovesCursor l.initial.solver l.solver

abbrev pub decreases-loop-solver : goal.decreases-loop-solver
decreases-loop-solver l = vec_len l.solver.assumed - l.solver.cursor
