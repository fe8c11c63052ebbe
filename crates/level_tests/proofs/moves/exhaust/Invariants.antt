use Rattle.std.proofs.Common.{length}
use Rattle.asp_game.specs.Questions.{open_moves}
use Rattle.level_tests.proofs.Fewer.{Continues}
use Rattle.level_tests.proofs.moves.exhaust.Given as goal

abbrev pub invariant-loop-moves : goal.invariant-loop-moves
invariant-loop-moves g l = Continues (g.M.Moves.state l.initial.moves) (g.M.Moves.state l.moves)

abbrev pub decreases-loop-moves : goal.decreases-loop-moves
decreases-loop-moves g l = length (open_moves (g.M.Moves.state l.moves) (g.M.Moves.state l.moves).outer)
