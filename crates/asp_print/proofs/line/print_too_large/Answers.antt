use Rattle.std.proofs.Common.{codes, decimal}
use Rattle.asp_defs.specs.Lines.{which_text}
use Rattle.asp_print.proofs.Writing.{behind, cut, failed}
use Rattle.asp_print.proofs.line.print_too_large.Goals as goal

pub returns-in_err-print_bytes : goal.returns-in_err-print_bytes
returns-in_err-print_bytes g c =
    failed _ c.from_residual.ensures.0 (cut (codes "\n") (cut (decimal c.args.count) (cut (codes " ") (cut (which_text c.args.which) (c.in_err-print_bytes.ensures)))))

pub returns-in_err-print_counted : goal.returns-in_err-print_counted
returns-in_err-print_counted g c =
    failed _ c.from_residual-in_err-print_counted.ensures.0 (cut (codes "\n") (cut (decimal c.args.count) (cut (codes " ") (behind c.in_ok-print_bytes.ensures c.in_err-print_counted.ensures))))

pub returns-in_err-print_bytes-2 : goal.returns-in_err-print_bytes-2
returns-in_err-print_bytes-2 g c =
    failed _ c.from_residual-in_err-print_bytes-2.ensures.0 (cut (codes "\n") (cut (decimal c.args.count) (behind (behind c.in_ok-print_bytes.ensures c.in_ok-print_counted.ensures) c.in_err-print_bytes-2.ensures)))

pub returns-in_err-print_count : goal.returns-in_err-print_count
returns-in_err-print_count g c =
    failed _ c.from_residual-in_err-print_count.ensures.0 (cut (codes "\n") (behind (behind (behind c.in_ok-print_bytes.ensures c.in_ok-print_counted.ensures) c.in_ok-print_bytes-2.ensures) c.in_err-print_count.ensures))

pub returns : goal.returns
returns g c =
    behind (behind (behind (behind c.in_ok-print_bytes.ensures c.in_ok-print_counted.ensures) c.in_ok-print_bytes-2.ensures) c.in_ok-print_count.ensures) c.print_bytes-3.ensures
