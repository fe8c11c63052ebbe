use Rattle.asp_bits.specs.Places.{true_places}
use Rattle.asp_minimal.proofs.Reasons.{outer_in_pos, outer_in_neg, outer_true_without}
use Rattle.asp_minimal.proofs.blocking.outer_reason.Goals as goal

pub returns-in-Some : goal.returns-in-Some
returns-in-Some c =
    outer_in_pos (true_places c.args.set.now) (true_places c.args.outer.now) c.args.rule.now c.as_slice.result.now c.in-Some.atom c.as_slice.ensures c.in-Some.ensures

pub returns-in-Some-first_with : goal.returns-in-Some-first_with
returns-in-Some-first_with c =
    outer_in_neg (true_places c.args.set.now) (true_places c.args.outer.now) c.args.rule.now c.as_slice-2.result.now c.in-Some-first_with.atom c.as_slice-2.ensures c.in-Some-first_with.ensures

pub returns : goal.returns
returns c =
    outer_true_without (true_places c.args.set.now) (true_places c.args.outer.now) c.args.rule.now c.as_slice.result.now c.as_slice-2.result.now
    c.as_slice.ensures c.as_slice-2.ensures c.in_default.ensures c.in_default-first_with.ensures
