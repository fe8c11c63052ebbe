use Rattle.asp_search.proofs.Grounding.{IsGround-more, IsGrounded-from}
use Rattle.asp_search.proofs.ground.look_at_ground.Goals as goal

pub loop-loose-preserved : goal.loop-loose-preserved
loop-loose-preserved c =
    IsGround-more c.args.book.now.kinds c.args.trail.now.steps c.loop-loose.looked c.loop-loose.loose c.is_loosened.result
    (c.is_ground.ensures.within c.loop-loose-test.true) (c.is_ground.ensures.low c.loop-loose-test.true) c.is_loosened.ensures.grows c.is_loosened.ensures.firm c.loop-loose.invariant

pub returns-clause-grounded : goal.returns-clause-grounded
returns-clause-grounded c =
    IsGrounded-from c.args.book.now c.args.trail.now c.loop-loose.looked c.loop-loose.loose c.requires.goes c.requires.kinds (c.is_ground.ensures.behind c.loop-loose-test.false) c.loop-loose.invariant
