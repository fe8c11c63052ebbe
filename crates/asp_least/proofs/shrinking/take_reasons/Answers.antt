use Rattle.std.proofs.Common.{length, arith}
use Rattle.asp_least.proofs.FoundedAtoms.{place-below}
use Rattle.asp_least.proofs.shrinking.take_reasons.Goals as goal

pub take_reason-requires-clause-below : goal.take_reason-requires-clause-below
take_reason-requires-clause-below c =
    place-below c.args.rules.now c.in-Some.place (length c.args.set.now) c.index-rules-place.result c.requires.below (omega arith) c.index-rules-place.is
