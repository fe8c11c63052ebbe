use Rattle.asp_print.proofs.Writing.{behind, cut, failed}
use Rattle.asp_print.proofs.sets.print_set_line.Goals as goal

pub returns-in_err-print_braced : goal.returns-in_err-print_braced
returns-in_err-print_braced g c =
    failed _ c.from_residual.ensures.0 (cut _ c.in_err-print_braced.ensures)

pub returns : goal.returns
returns g c =
    behind c.in_ok-print_braced.ensures c.print_bytes.ensures
