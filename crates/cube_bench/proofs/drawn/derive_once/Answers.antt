use Rattle.std.proofs.Common.{length}
use Rattle.asp_eval.proofs.Deciding.{rule_below}
use Rattle.cube_bench.proofs.drawn.derive_once.Goals as goal

pub derive-requires : goal.derive-requires
derive-requires c =
    rule_below c.args.rules.now c.loop-rule.rule-index (length c.args.set.now) (length c.loop-rule.set) c.rule-item.result c.requires c.loop-rule-test.true
    c.rule-item.is c.loop-rule.invariant
