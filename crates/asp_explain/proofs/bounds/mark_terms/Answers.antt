use Rattle.asp_bits.specs.Places.{true_places}
use Rattle.asp_defs.specs.Bounds.{term_atoms}
use Rattle.asp_explain.specs.Resting.{are_known}
use Rattle.asp_explain.proofs.Marking.{term-grows, achieves_more}
use Rattle.asp_explain.proofs.bounds.mark_terms.Goals as goal

pub loop-term-preserved : goal.loop-term-preserved
loop-term-preserved c =
    achieves_more (λ C d. are_known (true_places c.args.outer.now) C (term_atoms d)) term_atoms (true_places c.args.outer.now) c.args.terms.now
    c.loop-term.term-index c.term-item.result c.term-item.result c.args.marks.now c.loop-term.marks c.mark_term.new.marks
    (term-grows (true_places c.args.outer.now)) c.loop-term-test.true c.term-item.is c.loop-term.invariant c.mark_term.ensures
