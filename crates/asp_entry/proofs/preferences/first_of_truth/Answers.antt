use Rattle.std.proofs.Common.{length}
use Rattle.asp_bits.specs.Places.{true_places}
use Rattle.asp_entry.proofs.Taking.{taken_below_so_far, taken_more}
use Rattle.asp_entry.proofs.preferences.first_of_truth.Goals as goal

pub earlier_of_truth-best-requires-clause-best : goal.earlier_of_truth-best-requires-clause-best
earlier_of_truth-best-requires-clause-best c =
    taken_below_so_far (true_places c.args.set.now) c.args.truth c.args.atoms.now c.loop-atom.atom-index (length c.args.set.now) (length c.args.preferences.now.kept.now)
    c.args.best c.loop-atom.best c.requires.same_length c.requires.best c.requires.below c.loop-atom.invariant

pub loop-atom-preserved : goal.loop-atom-preserved
loop-atom-preserved c =
    taken_more (true_places c.args.set.now) c.args.truth c.args.atoms.now c.loop-atom.atom-index 0 c.args.best c.loop-atom.best
    c.earlier_of_truth-best.result c.loop-atom-test.true c.loop-atom.invariant c.earlier_of_truth-best.ensures
