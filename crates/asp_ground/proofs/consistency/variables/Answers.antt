use Rattle.asp_ground.proofs.Rooms.{variables_more}
use Rattle.asp_ground.proofs.consistency.variables.Goals as goal

pub loop-place-preserved : goal.loop-place-preserved
loop-place-preserved c =
    variables_more c.loop-place.terms.items c.push.new.self.items c.loop-place.place c.loop-place.invariant c.in_ok-push.ensures.items
