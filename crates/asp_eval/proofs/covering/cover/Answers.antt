use Rattle.asp_bits.specs.Places.{true_places}
use Rattle.asp_eval.proofs.Choosing.{covers_more}
use Rattle.asp_eval.proofs.covering.cover.Goals as goal

pub loop-rule-preserved : goal.loop-rule-preserved
loop-rule-preserved c =
    covers_more (true_places c.args.outer.now) (true_places c.args.set.now) c.args.rules.now c.loop-rule.rule-index c.rule-item.result
    c.args.chosen.now c.loop-rule.chosen c.cover_rule.new.chosen c.loop-rule-test.true c.rule-item.is c.loop-rule.invariant c.cover_rule.ensures
