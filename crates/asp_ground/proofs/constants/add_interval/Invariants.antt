use Rattle.std.proofs.Common.{map}
use Rattle.asp_defs.specs.declared.ground.Const.TheVariants as const
use Rattle.asp_defs.specs.Constants.{integers_from}
use Rattle.asp_atoms.specs.ConstRefs.{const_of}
use Rattle.asp_ground.specs.Counts.{Gathers}
use Rattle.asp_ground.proofs.constants.add_interval.Given as goal

abbrev pub invariant-loop-step : goal.invariant-loop-step
invariant-loop-step l =
    Gathers (map const_of l.fn.found.items) (map const_of l.found.items) (map const.Int (integers_from l.low l.step))
