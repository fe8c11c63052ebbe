use Rattle.std.proofs.Common.{◌∙◌, sym}
use Rattle.std.proofs.lemmas.Result.{err_from_is_err_and}
use Rattle.asp_defs.specs.Sizes.{instance_total}
use Rattle.asp_ground.proofs.Levels.{base_refusal, game_by_instances, past_cut}
use Rattle.asp_ground.proofs.game.measure.Goals as goal

pub returns-in_err-vocabulary-clause-refused : goal.returns-in_err-vocabulary-clause-refused
returns-in_err-vocabulary-clause-refused c =
    let p = err_from_is_err_and c.from_residual.result c.from_residual.ensures.1 in
    rw (p.1, p.2) (base_refusal c.args.checked.now c.in_err-vocabulary.field-0.0 c.in_err-vocabulary.ensures)

pub returns-in-Some-clause-refused : goal.returns-in-Some-clause-refused
returns-in-Some-clause-refused c =
    game_by_instances c.args.checked.now _ c.in_ok-vocabulary.ensures.small
    (sym (past_cut (instance_total c.args.checked.now) c.instance_count.result c.instance_count.ensures)
    ∙ (sym c.past_limit.ensures ∙ c.in-Some.is))

pub returns-in-None-clause-small : goal.returns-in-None-clause-small
returns-in-None-clause-small c =
    game_by_instances c.args.checked.now _ c.in_ok-vocabulary.ensures.small
    (sym (past_cut (instance_total c.args.checked.now) c.instance_count.result c.instance_count.ensures)
    ∙ (sym c.past_limit.ensures ∙ c.in-None.is))
