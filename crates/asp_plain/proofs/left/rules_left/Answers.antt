use Rattle.std.proofs.Common.{List, sym, ap, ◌∙◌}
use Rattle.std.proofs.lemmas.List.{take_all}
use Rattle.asp_plain.specs.declared.masks.MaskedRule.{MaskedRule}
use Rattle.asp_plain.specs.Cubes.{rule_atoms, left_of, IsWhole}
use Rattle.asp_plain.proofs.LeftRules.{bare_left, whole_as, whole_again}
use Rattle.asp_plain.proofs.left.rules_left.Goals as goal

pub returns-then-atoms-eq0-clause-broken : goal.returns-then-atoms-eq0-clause-broken
returns-then-atoms-eq0-clause-broken c = λ none.
    bare_left c.args.rules.now c.args.set c.args.small c.args.rest c.args.loose c.loop-rule.rule-index _ c.loop-rule-test.true
    (sym c.can_matter.ensures ∙ c.if-can_matter.true) (sym (c.atoms.ensures ∙ ap rule_atoms c.narrowed-narrow.ensures) ∙ c.if-atoms-eq0.true)

pub returns-clause-whole : goal.returns-clause-whole
returns-clause-whole c =
    let all : List MaskedRule = left_of c.args.set c.args.small c.args.rest c.args.loose c.args.rules.now in
    let whole : IsWhole c.loop-rule.left.items all =
    whole_as c.loop-rule.left.items all
    (c.loop-rule.invariant.0
    ∙ ap (left_of c.args.set c.args.small c.args.rest c.args.loose) (take_all c.loop-rule.rule-index c.args.rules.now c.loop-rule-test.false))
    c.loop-rule.invariant.1 in
    whole_again c.thin_out.new.rules.items c.loop-rule.left.items all c.thin_out.ensures whole
