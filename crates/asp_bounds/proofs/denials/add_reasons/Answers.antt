use Rattle.std.proofs.Common.{length}
use Rattle.asp_bits.specs.Places.{true_places}
use Rattle.asp_bounds.proofs.Denying.{low-start, low-next, low-end, term-read}
use Rattle.asp_bounds.proofs.denials.add_reasons.Goals as goal

pub loop-term-init : goal.loop-term-init
loop-term-init c =
    low-start c.args.bound.now (true_places c.args.set.now) (length c.args.set.now) c.args.settled.now c.args.clause.now.items c.requires.denial
    c.requires.settled

pub add_reason-requires-clause-below : goal.add_reason-requires-clause-below
add_reason-requires-clause-below c =
    (term-read c.args.bound.now (length c.args.set.now) c.as_slice-terms.result.now c.loop-term.term-index c.term-item.result c.as_slice-terms.ensures
    c.loop-term-test.true c.term-item.is c.requires.below).0

pub add_reason-requires-clause-places : goal.add_reason-requires-clause-places
add_reason-requires-clause-places c = c.loop-term.invariant.as_many

pub loop-term-preserved : goal.loop-term-preserved
loop-term-preserved c =
    low-next c.args.bound.now (true_places c.args.set.now) (length c.args.set.now) c.as_slice-terms.result.now c.loop-term.term-index
    c.term-item.result c.loop-term.settled c.add_reason.new.settled c.loop-term.clause.items c.add_reason.new.clause.items
    (term-read c.args.bound.now (length c.args.set.now) c.as_slice-terms.result.now c.loop-term.term-index c.term-item.result c.as_slice-terms.ensures
    c.loop-term-test.true c.term-item.is c.requires.below)
    c.loop-term-test.true c.term-item.is c.loop-term.invariant c.in_ok-add_reason.ensures

pub returns : goal.returns
returns c =
    low-end c.args.bound.now (true_places c.args.set.now) (length c.args.set.now) c.as_slice-terms.result.now c.loop-term.term-index
    c.loop-term.settled c.loop-term.clause.items c.as_slice-terms.ensures c.loop-term-test.false c.loop-term.invariant
