use Rattle.std.proofs.Common.{◌≡◌, true, take}
use Rattle.std.specs.List.{list_all}
use Rattle.asp_bits.specs.Places.{true_places}
use Rattle.asp_defs.specs.Interpretations.{holds}
use Rattle.cube_tests.proofs.meeting.all_true.Given as goal

-- each atom so far is true
abbrev pub invariant-loop-atom : goal.invariant-loop-atom
invariant-loop-atom l = list_all (holds (true_places l.set)) (take l.atom-index l.atoms) ≡ true
