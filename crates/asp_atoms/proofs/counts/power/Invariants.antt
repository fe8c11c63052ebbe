use Rattle.std.proofs.Common.{◌≡◌, ◌^◌}
use Rattle.asp_atoms.specs.Counts.{shown}
use Rattle.asp_atoms.proofs.counts.power.Given as goal

abbrev pub invariant-loop-place : goal.invariant-loop-place
invariant-loop-place l = l.count ≡ shown (l.size ^ l._place)
