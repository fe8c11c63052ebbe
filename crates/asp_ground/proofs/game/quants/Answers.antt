use Rattle.std.proofs.Common.{refl, arith}
use Rattle.asp_defs.specs.declared.syntax.Part.{Part}
use Rattle.asp_template.proofs.Steps.{maps_item, maps_all}
use Rattle.asp_ground.proofs.game.quants.Goals as goal

pub loop-level-preserved : goal.loop-level-preserved
loop-level-preserved c =
    maps_item (λ (part : Part). part.quant) c.args.levels.now c.loop-level.level-index c.level-item.result c.loop-level.quants.items c.push.new.self.items _
    (omega arith) c.level-item.is c.loop-level.invariant c.in_ok-push.ensures.items refl

pub returns : goal.returns
returns c =
    maps_all (λ (part : Part). part.quant) c.args.levels.now c.loop-level.level-index c.loop-level.quants.items c.from_vec.result
    (omega arith) c.from_vec.ensures c.loop-level.invariant
