use Rattle.std.proofs.Common.{◌≡◌, ◌++◌, drop}
use Rattle.asp_atoms.specs.Gaps.{apart_from, first_low}
use Rattle.asp_atoms.proofs.intervals.apart.Given as goal

abbrev pub invariant-loop-interval : goal.invariant-loop-interval
invariant-loop-interval l = l.out.items ++ apart_from l.free (drop l.interval-index l.intervals) ≡ apart_from (first_low l.intervals) l.intervals
