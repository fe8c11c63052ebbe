use Rattle.std.proofs.Common.{below_more, arith}
use Rattle.asp_decide.proofs.decide.first_unassigned.Goals as goal

pub loop-front-preserved : goal.loop-front-preserved
loop-front-preserved c =
    below_more _ _ c.loop-front.invariant (c.is_unassigned.ensures.assigned c.if-is_unassigned.false)

pub returns-clause-total : goal.returns-clause-total
returns-clause-total c = λ _ atom low.
    c.loop-front.invariant atom (omega (arith, low, c.loop-front-test.false, c.atoms.ensures, c.requires.heap))
