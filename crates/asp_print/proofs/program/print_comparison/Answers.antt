use Rattle.asp_print.proofs.Writing.{behind, cut, failed}
use Rattle.asp_print.proofs.program.print_comparison.Goals as goal

pub returns-in_err-print : goal.returns-in_err-print
returns-in_err-print g c =
    failed _ c.from_residual.ensures.0 (cut _ (cut _ (cut _ (cut _ c.in_err-print.ensures))))

pub returns-in_err-print_bytes : goal.returns-in_err-print_bytes
returns-in_err-print_bytes g c =
    failed _ c.from_residual-in_err-print_bytes.ensures.0 (cut _ (cut _ (cut _ (behind c.in_ok-print.ensures c.in_err-print_bytes.ensures))))

pub returns-in_err-print_op : goal.returns-in_err-print_op
returns-in_err-print_op g c =
    failed _ c.from_residual-in_err-print_op.ensures.0 (cut _ (cut _ (behind (behind c.in_ok-print.ensures c.in_ok-print_bytes.ensures) c.in_err-print_op.ensures)))

pub returns-in_err-print_bytes-2 : goal.returns-in_err-print_bytes-2
returns-in_err-print_bytes-2 g c =
    failed _ c.from_residual-in_err-print_bytes-2.ensures.0 (cut _ (behind (behind (behind c.in_ok-print.ensures c.in_ok-print_bytes.ensures) c.in_ok-print_op.ensures) c.in_err-print_bytes-2.ensures))

pub returns : goal.returns
returns g c =
    behind (behind (behind (behind c.in_ok-print.ensures c.in_ok-print_bytes.ensures) c.in_ok-print_op.ensures) c.in_ok-print_bytes-2.ensures) c.print-2.ensures
