use Rattle.asp_plain.specs.Masks.{most_masked}
use Rattle.asp_plain.proofs.AtomsBelow.{term-below}
use Rattle.asp_plain.proofs.bounds.masked_bound_of.Goals as goal

pub masked_term_of-requires : goal.masked_term_of-requires
masked_term_of-requires c =
    term-below most_masked c.args.bound.now c.as_slice-term-items.result.now c.loop-term.term-index c.term-item.result
    c.as_slice-term-items.ensures c.loop-term-test.true c.term-item.is c.requires
