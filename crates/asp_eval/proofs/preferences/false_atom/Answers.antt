use Rattle.std.proofs.Common.{length, None, false}
use Rattle.asp_bits.specs.Places.{true_places}
use Rattle.asp_entry.proofs.Taking.{taken_below, below_none}
use Rattle.asp_eval.proofs.Choosing.{pos_below, false_taken}
use Rattle.asp_eval.proofs.preferences.false_atom.Goals as goal

pub first_of_truth-requires-clause-best : goal.first_of_truth-requires-clause-best
first_of_truth-requires-clause-best c =
    taken_below (true_places c.args.set.now) false c.as_slice.result.now (length c.args.set.now) (length c.args.preferences.now.kept.now)
    None c.first_of_truth-best.result c.requires.same_length (below_none (length c.args.preferences.now.kept.now))
    (pos_below c.args.rule.now c.as_slice.result.now (length c.args.set.now) c.as_slice.ensures c.requires.below) c.first_of_truth-best.ensures

pub returns : goal.returns
returns c =
    false_taken (true_places c.args.set.now) c.args.rule.now c.as_slice.result.now c.as_slice-2.result.now c.first_of_truth-best.result c.first_of_truth.result
    c.as_slice.ensures c.as_slice-2.ensures c.first_of_truth-best.ensures c.first_of_truth.ensures
