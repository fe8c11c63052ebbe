use Rattle.std.proofs.Common.{refl, sym, ◌∙◌}
use Rattle.asp_bits.specs.Places.{true_places}
use Rattle.asp_explain.proofs.Deriving.{rule_settled, rule_passed}
use Rattle.asp_explain.proofs.rules.settle_rule.Goals as goal

pub returns-then-may_support : goal.returns-then-may_support
returns-then-may_support c =
    rule_settled (true_places c.args.outer.now) (true_places c.args.founded.now) (true_places c.args.set.now) c.args.rule.now c.args.marks.now c.mark_rule.new.marks c.mark_rule.ensures

pub returns-else-may_support : goal.returns-else-may_support
returns-else-may_support c =
    rule_passed (true_places c.args.outer.now) (true_places c.args.founded.now) (true_places c.args.set.now) c.args.rule.now c.args.marks.now c.args.marks.now refl
    (sym c.may_support.ensures ∙ c.if-may_support.false)
