use Rattle.std.proofs.Common.{take}
use Rattle.asp_bits.specs.Places.{true_places}
use Rattle.cube_tests.specs.Moves.{AgreeOn}
use Rattle.cube_tests.proofs.answering.are_alike.Given as goal

-- the sets agree on the atoms so far
abbrev pub invariant-loop-atom : goal.invariant-loop-atom
invariant-loop-atom l = AgreeOn (take l.atom-index l.atoms) (true_places l.first) (true_places l.second)
