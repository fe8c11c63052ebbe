use Rattle.std.proofs.Common.{◌∙◌, List, subst}
use Rattle.std.proofs.lemmas.List.{take_all}
use Rattle.asp_defs.specs.declared.ground.GroundRule.{GroundRule}
use Rattle.asp_completion.specs.Levels.{game_at}
use Rattle.asp_completion.proofs.LevelFacts.{rules-in, rule-inside}
use Rattle.asp_completion.proofs.Loops.{HasRulesSoFar, filled-none, filled-step}
use Rattle.asp_completion.proofs.clauses.add_rules.Goals as goal

pub loop-rule-init : goal.loop-rule-init
loop-rule-init c = filled-none (game_at c.args.level.now) c.args.level.now.number c.args.search.now c.requires.none c.requires.no_firm

pub add_rule-requires-clause-inside : goal.add_rule-requires-clause-inside
add_rule-requires-clause-inside c =
    rule-inside c.args.level.now c.requires.ready c.rules-rules.result.now c.loop-rule.rule-index c.rule-item.result c.rules-rules.ensures
    c.loop-rule-test.true c.rule-item.is

pub add_rule-requires-clause-atoms : goal.add_rule-requires-clause-atoms
add_rule-requires-clause-atoms c = c.loop-rule.invariant.atoms ∙ c.requires.atoms

pub loop-rule-preserved : goal.loop-rule-preserved
loop-rule-preserved c =
    filled-step (game_at c.args.level.now) c.args.level.now.number c.rules-rules.result.now c.loop-rule.rule-index c.rule-item.result
    c.args.search.now c.loop-rule.search c.add_rule.new.search c.rules-rules.ensures (rules-in c.args.level.now c.requires.ready)
    c.loop-rule-test.true c.rule-item.is c.loop-rule.invariant c.in_ok-add_rule.ensures

pub returns : goal.returns
returns c =
    subst (λ (rs : List GroundRule). HasRulesSoFar (game_at c.args.level.now) c.args.level.now.number rs c.args.search.now c.loop-rule.search)
    (take_all c.loop-rule.rule-index c.rules-rules.result.now c.loop-rule-test.false ∙ c.rules-rules.ensures) c.loop-rule.invariant
