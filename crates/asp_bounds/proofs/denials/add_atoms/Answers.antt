use Rattle.std.proofs.Common.{length}
use Rattle.asp_bits.specs.Places.{true_places}
use Rattle.asp_bounds.proofs.Denying.{high-start, high-next, high-end, term-read}
use Rattle.asp_bounds.proofs.denials.add_atoms.Goals as goal

pub loop-term-init : goal.loop-term-init
loop-term-init c =
    high-start c.args.bound.now (true_places c.args.set.now) c.args.atoms.now (length c.args.set.now) c.args.wanted.now c.args.clause.now.items
    c.requires.denial c.requires.wanted

pub add_term-requires-clause-below : goal.add_term-requires-clause-below
add_term-requires-clause-below c =
    (term-read c.args.bound.now (length c.args.set.now) c.as_slice-terms.result.now c.loop-term.term-index c.term-item.result c.as_slice-terms.ensures
    c.loop-term-test.true c.term-item.is c.requires.below).0

pub add_term-requires-clause-places : goal.add_term-requires-clause-places
add_term-requires-clause-places c = c.loop-term.invariant.as_many

pub loop-term-preserved : goal.loop-term-preserved
loop-term-preserved c =
    high-next c.args.bound.now (true_places c.args.set.now) c.args.atoms.now (length c.args.set.now) c.as_slice-terms.result.now
    c.loop-term.term-index c.term-item.result c.loop-term.wanted c.add_term.new.wanted c.loop-term.clause.items c.add_term.new.clause.items
    (term-read c.args.bound.now (length c.args.set.now) c.as_slice-terms.result.now c.loop-term.term-index c.term-item.result c.as_slice-terms.ensures
    c.loop-term-test.true c.term-item.is c.requires.below)
    c.loop-term-test.true c.term-item.is c.loop-term.invariant c.in_ok-add_term.ensures

pub returns : goal.returns
returns c =
    high-end c.args.bound.now (true_places c.args.set.now) c.args.atoms.now (length c.args.set.now) c.as_slice-terms.result.now
    c.loop-term.term-index c.loop-term.wanted c.loop-term.clause.items c.as_slice-terms.ensures c.loop-term-test.false c.requires.counted
    c.loop-term.invariant
