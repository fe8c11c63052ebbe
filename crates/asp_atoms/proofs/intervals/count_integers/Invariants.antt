use Rattle.std.proofs.Common.{◌≡◌, length, min, take}
use Rattle.asp_defs.specs.Limits.{most_shown}
use Rattle.asp_atoms.specs.Universes.{integers_of}
use Rattle.asp_atoms.proofs.intervals.count_integers.Given as goal

abbrev pub invariant-loop-interval : goal.invariant-loop-interval
invariant-loop-interval l = l.count ≡ min (length (integers_of (take l.interval-index l.intervals))) most_shown
