use Rattle.asp_print.proofs.Writing.{behind, cut, failed}
use Rattle.asp_print.proofs.program.ElementPrinted.print.Goals as goal

pub returns-in_err-print : goal.returns-in_err-print
returns-in_err-print g c =
    failed _ c.from_residual.ensures.0 (cut _ c.in_err-print.ensures)

pub returns : goal.returns
returns g c =
    behind c.in_ok-print.ensures c.print_behind.ensures
