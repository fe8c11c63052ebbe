use Rattle.std.proofs.Common.{◌≡◌, length}
use Rattle.asp_bits.specs.Places.{true_places}
use Rattle.asp_eval.specs.Covering.{IsWithin}
use Rattle.team_tests.proofs.outer.outer_move.Given as goal

-- atoms of the base below alone are true
abbrev pub invariant-loop-place : goal.invariant-loop-place
invariant-loop-place l = (length l.set ≡ length l.game.bases.atoms) × IsWithin (true_places l.set) l.base
