use Rattle.asp_bits.specs.Places.{true_places}
use Rattle.asp_minimal.proofs.Reasons.{reason_in_pos, reason_in_neg, reason_in_head, open_without}
use Rattle.asp_minimal.proofs.blocking.reason.Goals as goal

pub returns-in-Some : goal.returns-in-Some
returns-in-Some c =
    reason_in_pos (true_places c.args.set.now) (true_places c.args.part.now) c.args.rule.now c.as_slice.result.now c.in-Some.atom c.as_slice.ensures c.in-Some.ensures

pub returns-in-Some-first_true : goal.returns-in-Some-first_true
returns-in-Some-first_true c =
    reason_in_neg (true_places c.args.set.now) (true_places c.args.part.now) c.args.rule.now c.as_slice-2.result.now c.in-Some-first_true.atom c.as_slice-2.ensures c.in-Some-first_true.ensures

pub returns-in-Some-first_with : goal.returns-in-Some-first_with
returns-in-Some-first_with c =
    reason_in_head (true_places c.args.set.now) (true_places c.args.part.now) c.args.rule.now c.as_slice-3.result.now c.in-Some-first_with.atom c.as_slice-3.ensures c.in-Some-first_with.ensures

pub returns : goal.returns
returns c =
    open_without (true_places c.args.set.now) (true_places c.args.part.now) c.args.rule.now c.as_slice.result.now c.as_slice-2.result.now c.as_slice-3.result.now
    c.as_slice.ensures c.as_slice-2.ensures c.as_slice-3.ensures c.in_default.ensures c.in_default-first_true.ensures
    c.in_default-first_with.ensures
