use Rattle.std.proofs.Common.{arith, subst}
use Rattle.std.specs.Prelude.{◌≢◌}
use Rattle.std.proofs.lemmas.Result.{err_from_is_err_and}
use Rattle.asp_check.proofs.Checkable.{text_is_checkable}
use Rattle.asp_defs.specs.declared.faults.TextFault.TheVariants.{NoMemory}
use Rattle.asp_defs.specs.Grammar.{IsText}
use Rattle.asp_defs.specs.TextRefusals.{IsRefused}
use Rattle.asp_top.proofs.Refusals.{text_refused, check_refused}
use Rattle.asp_top.proofs.accept.checked.Goals as goal

pub check-requires : goal.check-requires
check-requires c = text_is_checkable c.as_slice.result.now c.in_ok-program.program c.in_ok-program.ensures.text

pub returns-in_err-program-clause-refused : goal.returns-in_err-program-clause-refused
returns-in_err-program-clause-refused c =
    let p = err_from_is_err_and c.from_residual.result c.from_residual.ensures.1 in
    let fault = c.in_err-program.field-0.0 in
    rw (p.1, p.2)
    (text_refused c.args.bytes.items (λ past. omega arith) fault
    (subst (λ bytes. fault ≢ NoMemory → IsRefused bytes fault) c.as_slice.ensures.value c.in_err-program.ensures.refused))

pub returns-in_err-check-clause-refused : goal.returns-in_err-check-clause-refused
returns-in_err-check-clause-refused c =
    let p = err_from_is_err_and c.from_residual-in_err-check.result c.from_residual-in_err-check.ensures.1 in
    rw (p.1, p.2)
    (check_refused c.args.bytes.items (λ past. omega arith) c.in_ok-program.program c.in_err-check.field-0.0
    (subst (λ bytes. IsText bytes c.in_ok-program.program) c.as_slice.ensures.value c.in_ok-program.ensures.text)
    c.in_err-check.ensures.refused)
