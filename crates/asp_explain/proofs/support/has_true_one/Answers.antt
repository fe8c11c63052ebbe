use Rattle.std.proofs.Common.{◌&&◌, sym, ◌∙◌}
use Rattle.std.proofs.lemmas.Bool.{or_from}
use Rattle.std.proofs.lemmas.List.Folds.{list_any_at, list_any_more}
use Rattle.asp_bits.specs.Places.{true_places}
use Rattle.asp_defs.specs.Interpretations.{holds}
use Rattle.asp_defs.specs.History.{agrees}
use Rattle.asp_explain.proofs.support.has_true_one.Goals as goal

pub returns-then-is_true_one : goal.returns-then-is_true_one
returns-then-is_true_one c =
    sym (list_any_at (λ a. holds (true_places c.args.set.now) a && agrees c.args.wanted (holds (true_places c.args.founded.now) a)) c.args.atoms.now c.loop-atom.atom-index 0 c.loop-atom-test.true
    (sym c.is_true_one.ensures ∙ c.if-is_true_one.true))

pub loop-atom-preserved : goal.loop-atom-preserved
loop-atom-preserved c =
    list_any_more (λ a. holds (true_places c.args.set.now) a && agrees c.args.wanted (holds (true_places c.args.founded.now) a)) c.args.atoms.now c.loop-atom.atom-index 0 c.loop-atom-test.true
    ∙ or_from _ _ c.loop-atom.invariant (sym c.is_true_one.ensures ∙ c.if-is_true_one.false)
