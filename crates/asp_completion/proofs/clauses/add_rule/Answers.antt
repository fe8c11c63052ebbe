use Rattle.std.proofs.Common.{◌≡◌, ◌∙◌}
use Rattle.std.proofs.lemmas.Result.{on_ok_weaker}
use Rattle.asp_completion.specs.Codes.{codes, rule_literals}
use Rattle.asp_completion.specs.Levels.{upper}
use Rattle.asp_completion.proofs.Loops.{rule-below, rule-added}
use Rattle.asp_completion.proofs.clauses.add_rule.Goals as goal
use Rattle.asp_completion.proofs.clauses.add_rule.Goals.{After-as_slice}

clause_is : (c : After-as_slice) → c.as_slice.result.now ≡ codes (upper c.args.level.now) (rule_literals c.args.rule.now)
clause_is c = c.as_slice.ensures.value ∙ c.in_ok-write_rule.ensures

pub add-requires : goal.add-requires
add-requires c =
    rule-below (upper c.args.level.now) c.args.rule.now c.args.search.now.atoms c.as_slice.result.now c.requires.atoms c.requires.inside
    (clause_is c)

pub returns : goal.returns
returns c =
    on_ok_weaker c.add.result
    (rule-added (upper c.args.level.now) c.args.rule.now c.args.search.now c.add.new.self c.as_slice.result.now
    (clause_is (goal.at.returns c).After-as_slice) c.if-rule.false)
    c.add.ensures.added
