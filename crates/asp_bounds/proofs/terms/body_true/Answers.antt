use Rattle.asp_bits.specs.Places.{true_places}
use Rattle.asp_bounds.proofs.Counting.{body-then, body-else}
use Rattle.asp_bounds.proofs.terms.body_true.Goals as goal

pub returns-then-is_none : goal.returns-then-is_none
returns-then-is_none c =
    body-then (true_places c.args.set.now) c.args.bound.now c.as_slice.result.now c.as_slice-then-is_none.result.now c.first_false.result c.is_none.result
    c.any_true.result c.as_slice.ensures c.as_slice-then-is_none.ensures c.first_false.ensures c.is_none.ensures c.if-is_none.true c.any_true.ensures

pub returns-else-is_none : goal.returns-else-is_none
returns-else-is_none c =
    body-else (true_places c.args.set.now) c.args.bound.now c.as_slice.result.now c.first_false.result c.is_none.result
    c.as_slice.ensures c.first_false.ensures c.is_none.ensures c.if-is_none.false
