use Rattle.std.proofs.Common.{refl}
use Rattle.std.proofs.lemmas.Result.{err_from_is_err_and}
use Rattle.asp_top.proofs.Refusals.{size_refused, accepted}
use Rattle.asp_top.proofs.accept.accept.Goals as goal

pub returns-in_err-vocabulary-clause-refused : goal.returns-in_err-vocabulary-clause-refused
returns-in_err-vocabulary-clause-refused c =
    let p = err_from_is_err_and c.from_residual-in_err-vocabulary.result c.from_residual-in_err-vocabulary.ensures.1 in
    rw (p.1, p.2)
    (size_refused c.args.bytes.items c.in_ok-checked.checked c.in_ok-checked.ensures.checked c.in_err-vocabulary.field-0.0
    c.in_err-vocabulary.ensures.refused)

pub returns-clause-accepted : goal.returns-clause-accepted
returns-clause-accepted c =
    accepted c.args.bytes.items c.in_ok-checked.checked c.in_ok-checked.ensures.checked c.in_ok-checked.checked refl
    c.in_ok-vocabulary.ensures.small
