use Rattle.asp_print.proofs.Writing.{behind, cut, failed}
use Rattle.asp_print.proofs.program.print_constraint.Goals as goal

pub returns-in_err-print_bytes : goal.returns-in_err-print_bytes
returns-in_err-print_bytes g c =
    failed _ c.from_residual.ensures.0 (cut _ c.in_err-print_bytes.ensures)

pub returns : goal.returns
returns g c =
    behind c.in_ok-print_bytes.ensures c.print_joined.ensures
