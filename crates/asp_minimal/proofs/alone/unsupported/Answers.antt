use Rattle.std.proofs.Common.{take}
use Rattle.asp_bits.specs.Places.{true_places}
use Rattle.asp_minimal.proofs.Lone.{alone_start, alone_inside, alone_more, alone_found}
use Rattle.asp_minimal.proofs.alone.unsupported.Goals as goal

pub loop-rule-init : goal.loop-rule-init
loop-rule-init c = alone_start (true_places c.args.set.now) c.args.part.now c.in_ok-alone.alone c.in_ok-alone.ensures

pub clear_supported-requires-clause-inside : goal.clear_supported-requires-clause-inside
clear_supported-requires-clause-inside c =
    alone_inside (take c.loop-rule.rule-index c.args.rules.now) (true_places c.args.set.now) c.args.part.now c.loop-rule.alone c.loop-rule.invariant c.requires.inside

pub loop-rule-preserved : goal.loop-rule-preserved
loop-rule-preserved c =
    alone_more c.args.rules.now (true_places c.args.set.now) c.loop-rule.rule-index c.rule-item.result c.args.part.now c.loop-rule.alone c.clear_supported.new.alone
    c.loop-rule-test.true c.rule-item.is c.loop-rule.invariant c.clear_supported.ensures

pub returns : goal.returns
returns c =
    alone_found c.args.rules.now (true_places c.args.set.now) c.loop-rule.rule-index c.args.part.now c.loop-rule.alone c.first_place.result
    c.loop-rule-test.false c.loop-rule.invariant c.first_place.ensures
