use Rattle.std.proofs.Common.{sym, ap, ◌∙◌}
use Rattle.std.proofs.lemmas.Bool.{and_from}
use Rattle.std.proofs.lemmas.List.Folds.{list_all_at, list_all_more}
use Rattle.asp_bits.specs.Places.{true_places}
use Rattle.asp_defs.specs.Truth.{satisfies}
use Rattle.level_tests.proofs.minimality.is_model.Goals as goal

pub returns-then-not-satisfies : goal.returns-then-not-satisfies
returns-then-not-satisfies c =
    let test = satisfies (true_places c.args.set.now) in
    sym (list_all_at test c.args.rules.now c.loop-rule.rule-index c.rule-item.result c.loop-rule-test.true
    (ap test (sym c.rule-item.is) ∙ sym c.satisfies.ensures ∙ c.if-not-satisfies.true))

pub loop-rule-preserved : goal.loop-rule-preserved
loop-rule-preserved c =
    let test = satisfies (true_places c.args.set.now) in
    list_all_more test c.args.rules.now c.loop-rule.rule-index c.rule-item.result c.loop-rule-test.true
    ∙ and_from _ _ c.loop-rule.invariant (ap test (sym c.rule-item.is) ∙ sym c.satisfies.ensures ∙ c.if-not-satisfies.false)
