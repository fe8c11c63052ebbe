use Rattle.std.proofs.Common.{◌-◌, length}
use Rattle.asp_search.specs.Learned.{IsGround}
use Rattle.asp_search.proofs.ground.look_at_ground.Given as goal

abbrev pub invariant-loop-loose : goal.invariant-loop-loose
invariant-loop-loose l = IsGround l.book.kinds l.trail.steps l.looked l.loose

abbrev pub decreases-loop-loose : goal.decreases-loop-loose
decreases-loop-loose l = length l.trail.steps - l.looked
