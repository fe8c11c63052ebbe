use Rattle.std.proofs.Common.{◌≡◌, ◌++◌, map}
use Rattle.asp_defs.specs.declared.ground.Const.TheVariants as const
use Rattle.asp_defs.specs.Constants.{integers_from}
use Rattle.asp_atoms.proofs.intervals.add_integers.Given as goal

abbrev pub invariant-loop-step : goal.invariant-loop-step
invariant-loop-step l = l.out.items ≡ l.fn.out.items ++ map const.Int (integers_from l.interval.low l.step)
