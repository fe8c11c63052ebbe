use Rattle.std.proofs.lemmas.Result.{err_from_is_err_and}
use Rattle.asp_ground.proofs.Levels.{few_instances, instance_fault}
use Rattle.asp_ground.proofs.game.ground.Goals as goal

pub returns-in_err-vocabulary-clause-refused : goal.returns-in_err-vocabulary-clause-refused
returns-in_err-vocabulary-clause-refused c =
    let p = err_from_is_err_and c.from_residual.result c.from_residual.ensures.1 in
    rw (p.1, p.2) (instance_fault c.args.checked.now c.in_err-vocabulary.field-0.0 c.requires.small c.in_err-vocabulary.ensures.refused)

pub returns-clause-small : goal.returns-clause-small
returns-clause-small c = few_instances c.args.checked.now c.in_ok-vocabulary.ensures.small
