use Rattle.std.proofs.Common.{◌≡◌}
use Rattle.drawn_tests.proofs.drawn.DefinedTrial.run.Given as goal

-- the level of the game is asked still
abbrev pub invariant-loop-outer : goal.invariant-loop-outer
invariant-loop-outer l = (l.answers.moves.game ≡ l.game) × (l.answers.moves.level ≡ l.level)
