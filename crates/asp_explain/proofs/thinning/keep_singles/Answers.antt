use Rattle.std.proofs.Common.{true, refl}
use Rattle.asp_bits.specs.Places.{true_places}
use Rattle.asp_defs.specs.Games.{rule_atoms}
use Rattle.asp_explain.proofs.Marking.{achieves_more}
use Rattle.asp_explain.proofs.thinning.keep_singles.Goals as goal

pub loop-rule-preserved : goal.loop-rule-preserved
loop-rule-preserved c =
    achieves_more (λ C r. true) rule_atoms (true_places c.args.outer.now) c.args.rules.now
    c.loop-rule.rule-index c.rule-item.result c.rule-item.result c.args.marks.now c.loop-rule.marks c.keep_single.new.marks
    (λ C D x more h. refl) c.loop-rule-test.true c.rule-item.is c.loop-rule.invariant c.keep_single.ensures
