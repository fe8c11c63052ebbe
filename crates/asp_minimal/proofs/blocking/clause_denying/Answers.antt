use Rattle.std.proofs.Common.{List, map, sym, subst}
use Rattle.asp_bits.specs.Places.{true_places}
use Rattle.asp_defs.specs.declared.ground.Lit.{Lit}
use Rattle.asp_minimal.specs.Nogoods.{denied, BlocksAll}
use Rattle.asp_minimal.proofs.Reasons.{blocks_start, blocks_step, blocks_end, unsupported_at}
use Rattle.asp_minimal.proofs.blocking.clause_denying.Goals as goal

pub loop-rule-init : goal.loop-rule-init
loop-rule-init c =
    blocks_start c.args.rules.now (true_places c.args.set.now) (true_places c.args.part.now) (true_places c.args.outer.now) (map denied c.args.atoms.now) c.in_ok-clause.clause.items
    c.in_ok-clause.ensures

pub add_reason-requires-clause-unfounded : goal.add_reason-requires-clause-unfounded
add_reason-requires-clause-unfounded c =
    unsupported_at c.args.rules.now (true_places c.args.set.now) (true_places c.args.part.now) c.loop-rule.rule-index c.rule-item.result
    c.loop-rule-test.true c.rule-item.is c.requires.unfounded

pub loop-rule-preserved : goal.loop-rule-preserved
loop-rule-preserved c =
    blocks_step c.args.rules.now (true_places c.args.set.now) (true_places c.args.part.now) (true_places c.args.outer.now) c.loop-rule.rule-index c.rule-item.result
    (map denied c.args.atoms.now) c.loop-rule.clause.items c.add_reason.new.clause.items
    c.loop-rule-test.true c.rule-item.is c.loop-rule.invariant c.in_ok-add_reason.ensures

pub returns : goal.returns
returns c =
    subst (λ (clause : List Lit). BlocksAll c.args.rules.now c.args.rules.now (true_places c.args.set.now) (true_places c.args.part.now) (true_places c.args.outer.now) (map denied c.args.atoms.now) clause)
    (sym c.from_vec.ensures)
    (blocks_end c.args.rules.now (true_places c.args.set.now) (true_places c.args.part.now) (true_places c.args.outer.now) c.loop-rule.rule-index (map denied c.args.atoms.now) c.loop-rule.clause.items
    c.loop-rule-test.false c.loop-rule.invariant)
