use Rattle.std.proofs.Common.{◌∷◌, [], true, refl}
use Rattle.asp_bits.specs.Places.{true_places}
use Rattle.asp_explain.proofs.Marking.{achieves_more}
use Rattle.asp_explain.proofs.thinning.mark_chosen.Goals as goal

pub loop-atom-preserved : goal.loop-atom-preserved
loop-atom-preserved c =
    achieves_more (λ C a. true) (λ a. a ∷ []) (true_places c.args.outer.now) c.args.atoms.now c.loop-atom.atom-index 0 _
    c.args.marks.now c.loop-atom.marks c.mark_if.new.marks (λ C D x more h. refl) c.loop-atom-test.true refl c.loop-atom.invariant c.mark_if.ensures
