use Rattle.std.proofs.Common.{not, ◌&&◌, ◌∷◌, [], sym, ap, ◌∙◌}
use Rattle.std.proofs.lemmas.Bool.{and_from}
use Rattle.std.proofs.lemmas.List.Folds.{list_all_at, list_all_more}
use Rattle.asp_bits.specs.Places.{true_places}
use Rattle.asp_defs.specs.Interpretations.{holds}
use Rattle.asp_least.proofs.heads.no_other.Goals as goal

pub returns-then-is_other : goal.returns-then-is_other
returns-then-is_other c =
    sym (list_all_at (λ a. not (holds (true_places c.args.set.now) a && not (holds (c.args.atom ∷ []) a))) c.args.atoms.now c.loop-other.other-index 0
    c.loop-other-test.true (ap not (sym c.is_other.ensures ∙ c.if-is_other.true)))

pub loop-other-preserved : goal.loop-other-preserved
loop-other-preserved c =
    list_all_more (λ a. not (holds (true_places c.args.set.now) a && not (holds (c.args.atom ∷ []) a))) c.args.atoms.now c.loop-other.other-index 0
    c.loop-other-test.true
    ∙ and_from _ _ c.loop-other.invariant (ap not (sym c.is_other.ensures ∙ c.if-is_other.false))
