use Rattle.std.proofs.Common.{◌∙◌}
use Rattle.std.proofs.lemmas.Result.{on_ok_weaker}
use Rattle.asp_completion.specs.Levels.{upper, lower, rules_at, bounds_at}
use Rattle.asp_completion.specs.Completions.{HasRules, IsCompleted}
use Rattle.asp_completion.specs.AtOnce.{AreMetAtOnce}
use Rattle.asp_completion.proofs.Headed.{completes-then, filled-then, has-rules}
use Rattle.asp_answers.proofs.question.fill.Goals as goal

pub add_completion-requires-clause-rules : goal.add_completion-requires-clause-rules
add_completion-requires-clause-rules c = record {
  atoms = c.in_ok-add_rules.ensures.atoms ∙ c.requires.atoms;
  means = c.in_ok-add_rules.ensures.means;
  firm = c.in_ok-add_rules.ensures.firm;
}

pub add_bounds-requires-clause-rules : goal.add_bounds-requires-clause-rules
add_bounds-requires-clause-rules c =
    let l = c.args.level.now in
    let has : HasRules l c.add_rules.new.search =
    record {
      atoms = c.in_ok-add_rules.ensures.atoms ∙ c.requires.atoms;
      means = c.in_ok-add_rules.ensures.means;
      firm = c.in_ok-add_rules.ensures.firm;
    } in
    has-rules l (IsCompleted (lower l) (upper l) (rules_at l)) c.add_rules.new.search c.add_completion.new.search has c.in_ok-add_completion.ensures

pub returns : goal.returns
returns c =
    let l = c.args.level.now in
    on_ok_weaker c.add_bounds.result
    (filled-then l (AreMetAtOnce (bounds_at l)) c.args.search.now c.add_completion.new.search c.add_bounds.new.search
    (completes-then l c.args.search.now c.add_rules.new.search c.add_completion.new.search c.in_ok-add_rules.ensures
    c.in_ok-add_completion.ensures))
    c.add_bounds.ensures
