use Rattle.std.proofs.Common.{◌≡◌}
use Rattle.asp_team.specs.States.{first_levels}
use Rattle.asp_team.proofs.level.levels_of.Given as goal

abbrev pub invariant-loop-place : goal.invariant-loop-place
invariant-loop-place l = l.levels.items ≡ first_levels l.game.value l.budget l.place
