use Rattle.std.proofs.Common.{◌≡◌, map, take}
use Rattle.std.specs.List.{enumerate_from}
use Rattle.asp_defs.specs.declared.syntax.Part.{Part}
use Rattle.asp_ground.specs.Levels.{level_instances}
use Rattle.asp_ground.proofs.game.levels_rules.Given as goal

abbrev pub invariant-loop-place : goal.invariant-loop-place
invariant-loop-place l =
    l.rules.items ≡ map (level_instances l.vocabulary l.program) (enumerate_from 1 (map (λ (part : Part). part.rules) (take l.place l.levels)))
