use Rattle.std.proofs.Common.{not, sym, ap, ◌∙◌}
use Rattle.std.proofs.lemmas.Bool.{or_from}
use Rattle.std.proofs.lemmas.List.Folds.{list_any_at, list_any_more}
use Rattle.asp_bits.specs.Places.{true_places}
use Rattle.asp_defs.specs.Interpretations.{holds}
use Rattle.asp_reduct.proofs.Truths.{holds-read}
use Rattle.asp_eval.proofs.covering.any_inner.Goals as goal

pub returns-then-not-get : goal.returns-then-not-get
returns-then-not-get c =
    sym (list_any_at (λ a. not (holds (true_places c.args.outer.now) a)) c.args.atoms.now c.loop-atom.atom-index 0 c.loop-atom-test.true
    (ap not (holds-read c.args.outer.now _ c.get.result c.get.ensures ∙ c.if-not-get.true)))

pub loop-atom-preserved : goal.loop-atom-preserved
loop-atom-preserved c =
    list_any_more (λ a. not (holds (true_places c.args.outer.now) a)) c.args.atoms.now c.loop-atom.atom-index 0 c.loop-atom-test.true
    ∙ or_from _ _ c.loop-atom.invariant
    (ap not (holds-read c.args.outer.now _ c.get.result c.get.ensures ∙ c.if-not-get.false))
