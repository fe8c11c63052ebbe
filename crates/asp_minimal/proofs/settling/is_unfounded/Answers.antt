use Rattle.std.proofs.Common.{not, sym, ap, ◌∙◌}
use Rattle.std.proofs.lemmas.Bool.{and_from}
use Rattle.std.proofs.lemmas.List.Folds.{list_all_at, list_all_more}
use Rattle.asp_bits.specs.Places.{true_places}
use Rattle.asp_defs.specs.Unfounded.{supports}
use Rattle.asp_minimal.proofs.settling.is_unfounded.Goals as goal

pub returns-then-supports : goal.returns-then-supports
returns-then-supports c =
    sym (list_all_at (λ r. not (supports (true_places c.args.set.now) (true_places c.args.part.now) r)) c.args.rules.now c.loop-rule.rule-index c.rule-item.result
    c.loop-rule-test.true (ap (λ q. not (supports (true_places c.args.set.now) (true_places c.args.part.now) q)) (sym c.rule-item.is) ∙ ap not (sym c.supports.ensures ∙ c.if-supports.true)))

pub loop-rule-preserved : goal.loop-rule-preserved
loop-rule-preserved c =
    list_all_more (λ r. not (supports (true_places c.args.set.now) (true_places c.args.part.now) r)) c.args.rules.now c.loop-rule.rule-index c.rule-item.result
    c.loop-rule-test.true
    ∙ and_from _ _ c.loop-rule.invariant
    (ap (λ q. not (supports (true_places c.args.set.now) (true_places c.args.part.now) q)) (sym c.rule-item.is) ∙ ap not (sym c.supports.ensures ∙ c.if-supports.false))
