use Rattle.std.proofs.Common.{length}
use Rattle.asp_bits.specs.Places.{true_places}
use Rattle.asp_least.proofs.PartLemmas.{found-low}
use Rattle.asp_least.proofs.shrinking.take_reason.Goals as goal

pub take-requires-clause-below : goal.take-requires-clause-below
take-requires-clause-below c =
    found-low (true_places c.args.left.now) c.args.rule.now c.as_slice-2.result.now c.in-Some.atom (length c.args.set.now) (length c.args.left.now)
    c.as_slice-2.ensures c.in-Some.ensures c.requires.below c.requires.left
