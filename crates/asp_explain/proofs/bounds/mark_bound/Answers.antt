use Rattle.std.proofs.Common.{length}
use Rattle.asp_bits.specs.Places.{true_places}
use Rattle.asp_explain.proofs.Deriving.{bound_marked, terms_below}
use Rattle.asp_explain.proofs.Marking.{marks-atoms}
use Rattle.asp_explain.proofs.bounds.mark_bound.Goals as goal

pub returns : goal.returns
returns c =
    bound_marked (true_places c.args.outer.now) c.args.bound.now c.as_slice.result.now c.as_slice-2.result.now c.as_slice-3.result.now
    c.args.marks.now c.mark_all.new.marks c.mark_all-2.new.marks c.mark_terms.new.marks
    c.as_slice.ensures c.as_slice-2.ensures c.as_slice-3.ensures (marks-atoms (true_places c.args.outer.now) c.mark_all.ensures) (marks-atoms (true_places c.args.outer.now) c.mark_all-2.ensures) c.mark_terms.ensures

pub mark_terms-requires-clause-below : goal.mark_terms-requires-clause-below
mark_terms-requires-clause-below c = terms_below (length c.args.outer.now) c.args.bound.now c.as_slice-3.result.now c.as_slice-3.ensures c.requires.below
