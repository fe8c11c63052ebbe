use Rattle.std.proofs.Common.{◌≡◌, length}
use Rattle.asp_bits.specs.Places.{true_places}
use Rattle.asked_moves.specs.Asking.{IsWithin}
use Rattle.asked_moves.proofs.questions.outer_move.Given as goal

-- atoms of the base below alone are true
abbrev pub invariant-loop-place : goal.invariant-loop-place
invariant-loop-place l = (length l.set ≡ length l.game.bases.atoms) × IsWithin (true_places l.set) l.lower
