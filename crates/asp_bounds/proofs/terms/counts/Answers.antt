use Rattle.asp_bits.specs.Places.{true_places}
use Rattle.asp_bounds.proofs.Counting.{counted-is}
use Rattle.asp_bounds.proofs.terms.counts.Goals as goal

pub returns : goal.returns
returns c = counted-is (true_places c.args.set.now) c.args.term.now c.reason.result c.is_none.result c.reason.ensures c.is_none.ensures
