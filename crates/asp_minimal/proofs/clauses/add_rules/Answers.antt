use Rattle.asp_bits.specs.Places.{true_places}
use Rattle.asp_minimal.specs.Demands.{allows}
use Rattle.asp_minimal.proofs.Stating.{demands_next}
use Rattle.asp_minimal.proofs.clauses.add_rules.Goals as goal

pub loop-rule-preserved : goal.loop-rule-preserved
loop-rule-preserved c =
    demands_next c.args.search.now c.loop-rule.search c.add_rule.new.search c.args.rules.now
    (allows (true_places c.args.set.now) (true_places c.args.part.now) c.args.numbers.now)
    c.loop-rule.rule-index c.rule-item.result c.loop-rule-test.true c.rule-item.is c.loop-rule.invariant c.in_ok-add_rule.ensures
