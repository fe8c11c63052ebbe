use Rattle.std.proofs.Common.{length}
use Rattle.asp_bits.specs.Places.{true_places}
use Rattle.asp_eval.proofs.Marking.{outer_body_is}
use Rattle.asp_eval.proofs.outer.outer_body.Goals as goal

pub returns : goal.returns
returns c =
    outer_body_is (true_places c.args.outer.now) c.args.rule.now (length c.args.outer.now) c.len.result c.as_slice.result.now c.as_slice-2.result.now c.in_ok-marks.marks
    c.mark_all.new.marks c.mark_all-2.new.marks c.as_slice.ensures c.as_slice-2.ensures c.in_ok-marks.ensures c.len.ensures c.mark_all.ensures c.mark_all-2.ensures
