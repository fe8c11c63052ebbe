use Rattle.std.proofs.Common.{arith}
use Rattle.asp_template.specs.Compiled.{compiled_instances}
use Rattle.asp_template.proofs.Steps.{grows_item}
use Rattle.asp_template.proofs.rules.add_rules.Goals as goal

pub loop-rule-preserved : goal.loop-rule-preserved
loop-rule-preserved c =
    grows_item (compiled_instances c.args.vocabulary.now c.args.ranks.now) c.args.out.now c.loop-rule.out c.add_rule.new.out c.args.rules.now c.loop-rule.rule-index c.rule-item.result (omega arith) c.rule-item.is c.loop-rule.invariant c.in_ok-add_rule.ensures
