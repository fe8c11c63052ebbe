use Rattle.asp_print.proofs.Writing.{behind, cut, failed}
use Rattle.asp_print.proofs.program.print_parts.Goals as goal

pub returns-in_err-print_each : goal.returns-in_err-print_each
returns-in_err-print_each g c =
    failed _ c.from_residual.ensures.0 (cut _ c.in_err-print_each.ensures)

pub returns : goal.returns
returns g c =
    behind c.in_ok-print_each.ensures c.print_constraint_part.ensures
