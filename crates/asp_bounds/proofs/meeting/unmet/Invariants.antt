use Rattle.std.proofs.Common.{◌≡◌, true, take}
use Rattle.asp_bits.specs.Places.{true_places}
use Rattle.asp_defs.specs.Bounds.{meets_all}
use Rattle.asp_bounds.proofs.meeting.unmet.Given as goal

-- the bounds so far are met
abbrev pub invariant-loop-bound : goal.invariant-loop-bound
invariant-loop-bound l = meets_all (true_places l.set) (take l.bound-index l.bounds) ≡ true
