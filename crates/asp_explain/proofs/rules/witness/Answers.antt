use Rattle.std.proofs.Common.{length}
use Rattle.asp_bits.specs.Places.{true_places}
use Rattle.asp_explain.proofs.Deriving.{witness_taken, head_low, pos_low}
use Rattle.asp_explain.proofs.rules.witness.Goals as goal

pub first_of_truth-of_pos-requires-clause-best : goal.first_of_truth-of_pos-requires-clause-best
first_of_truth-of_pos-requires-clause-best c =
    head_low (true_places c.args.set.now) c.args.rule.now c.as_slice.result.now (length c.args.set.now) (length c.args.preferences.now.kept.now) c.first_of_truth-of_head.result
    c.as_slice.ensures c.requires.below c.requires.kept c.first_of_truth-of_head.ensures

pub first_of_truth-requires-clause-best : goal.first_of_truth-requires-clause-best
first_of_truth-requires-clause-best c =
    pos_low (true_places c.args.set.now) c.args.rule.now c.as_slice.result.now c.as_slice-2.result.now (length c.args.set.now) (length c.args.preferences.now.kept.now)
    c.first_of_truth-of_head.result c.first_of_truth-of_pos.result c.as_slice.ensures c.as_slice-2.ensures c.requires.below c.requires.kept
    c.first_of_truth-of_head.ensures c.first_of_truth-of_pos.ensures

pub returns : goal.returns
returns c =
    witness_taken (true_places c.args.set.now) c.args.rule.now c.as_slice.result.now c.as_slice-2.result.now c.as_slice-3.result.now c.first_of_truth-of_head.result c.first_of_truth-of_pos.result
    c.first_of_truth.result c.as_slice.ensures c.as_slice-2.ensures c.as_slice-3.ensures c.first_of_truth-of_head.ensures c.first_of_truth-of_pos.ensures c.first_of_truth.ensures
