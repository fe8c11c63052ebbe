use Rattle.std.proofs.Common.{◌≡◌, map, take}
use Rattle.asp_defs.specs.declared.syntax.Part.{Part}
use Rattle.asp_ground.proofs.game.quants.Given as goal

abbrev pub invariant-loop-level : goal.invariant-loop-level
invariant-loop-level l = l.quants.items ≡ map (λ (part : Part). part.quant) (take l.level-index l.levels)
