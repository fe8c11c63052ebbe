use Rattle.asp_print.proofs.Writing.{behind, cut, failed}
use Rattle.asp_print.proofs.program.PartPrinted.print.Goals as goal

pub returns-in_err-print_directive : goal.returns-in_err-print_directive
returns-in_err-print_directive g c =
    failed _ c.from_residual.ensures.0 (cut _ c.in_err-print_directive.ensures)

pub returns : goal.returns
returns g c =
    behind c.in_ok-print_directive.ensures c.print_each.ensures
