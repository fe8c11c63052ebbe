use Rattle.std.proofs.Common.{decimal}
use Rattle.asp_print.proofs.Writing.{behind, cut, failed}
use Rattle.asp_print.proofs.line.print_around_count.Goals as goal

pub returns-in_err-print_bytes : goal.returns-in_err-print_bytes
returns-in_err-print_bytes g c =
    failed _ c.from_residual.ensures.0 (cut (c.args.after.now) (cut (decimal c.args.count) (c.in_err-print_bytes.ensures)))

pub returns-in_err-print_count : goal.returns-in_err-print_count
returns-in_err-print_count g c =
    failed _ c.from_residual-in_err-print_count.ensures.0 (cut (c.args.after.now) (behind c.in_ok-print_bytes.ensures c.in_err-print_count.ensures))

pub returns : goal.returns
returns g c =
    behind (behind c.in_ok-print_bytes.ensures c.in_ok-print_count.ensures) c.print_bytes-2.ensures
