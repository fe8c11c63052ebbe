use Rattle.std.proofs.Common.{◌≡◌, length}
use Rattle.cube_tests.proofs.explained.set_of.Given as goal

-- there is a place for each atom
abbrev pub invariant-loop-atom : goal.invariant-loop-atom
invariant-loop-atom l = length l.set ≡ length l.game.bases.atoms
