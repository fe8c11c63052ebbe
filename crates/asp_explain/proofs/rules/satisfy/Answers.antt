use Rattle.asp_bits.specs.Places.{true_places}
use Rattle.asp_defs.specs.Games.{rule_atoms}
use Rattle.asp_explain.specs.Resting.{is_safe}
use Rattle.asp_explain.proofs.Marking.{safe-grows, achieves_more}
use Rattle.asp_explain.proofs.rules.satisfy.Goals as goal

pub loop-rule-preserved : goal.loop-rule-preserved
loop-rule-preserved c =
    achieves_more (λ C r. is_safe (true_places c.args.outer.now) C (true_places c.args.set.now) r) rule_atoms (true_places c.args.outer.now) c.args.rules.now
    c.loop-rule.rule-index c.rule-item.result c.rule-item.result c.args.marks.now c.loop-rule.marks c.satisfy_rule.new.marks
    (safe-grows (true_places c.args.outer.now) (true_places c.args.set.now)) c.loop-rule-test.true c.rule-item.is c.loop-rule.invariant c.satisfy_rule.ensures
