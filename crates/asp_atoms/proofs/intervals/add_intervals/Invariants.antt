use Rattle.std.proofs.Common.{◌≡◌, ◌++◌, map, take}
use Rattle.asp_defs.specs.declared.ground.Const.TheVariants as const
use Rattle.asp_atoms.specs.Universes.{integers_of}
use Rattle.asp_atoms.proofs.intervals.add_intervals.Given as goal

abbrev pub invariant-loop-interval : goal.invariant-loop-interval
invariant-loop-interval l = l.out.items ≡ l.fn.out.items ++ map const.Int (integers_of (take l.interval-index l.intervals))
