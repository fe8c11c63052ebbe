use Rattle.std.proofs.Common.{◌∷◌, [], refl}
use Rattle.asp_bits.specs.Places.{true_places}
use Rattle.asp_explain.specs.Resting.{is_known}
use Rattle.asp_explain.proofs.Marking.{marks-atoms, literal-grows, literal-marked, achieves_more}
use Rattle.asp_explain.proofs.marks.mark_literals.Goals as goal

pub loop-lit-preserved : goal.loop-lit-preserved
loop-lit-preserved c =
    achieves_more (λ C l. is_known (true_places c.args.outer.now) C l.atom) (λ l. l.atom ∷ []) (true_places c.args.outer.now) c.args.lits.now c.loop-lit.lit-index _ _
    c.args.marks.now c.loop-lit.marks c.mark.new.marks (literal-grows (true_places c.args.outer.now)) c.loop-lit-test.true refl c.loop-lit.invariant
    (literal-marked (true_places c.args.outer.now) _ c.loop-lit.marks c.mark.new.marks (marks-atoms (true_places c.args.outer.now) c.mark.ensures))
