use Rattle.asp_bits.specs.Places.{true_places}
use Rattle.asp_defs.specs.Games.{rule_atoms}
use Rattle.asp_explain.specs.Resting.{is_settled}
use Rattle.asp_explain.proofs.Marking.{settled-grows, achieves_more}
use Rattle.asp_explain.proofs.rules.settle.Goals as goal

pub loop-rule-preserved : goal.loop-rule-preserved
loop-rule-preserved c =
    achieves_more (λ C r. is_settled (true_places c.args.outer.now) (true_places c.args.founded.now) C (true_places c.args.set.now) r) rule_atoms (true_places c.args.outer.now) c.args.rules.now
    c.loop-rule.rule-index c.rule-item.result c.rule-item.result c.args.marks.now c.loop-rule.marks c.settle_rule.new.marks
    (settled-grows (true_places c.args.outer.now) (true_places c.args.founded.now) (true_places c.args.set.now)) c.loop-rule-test.true c.rule-item.is c.loop-rule.invariant c.settle_rule.ensures
