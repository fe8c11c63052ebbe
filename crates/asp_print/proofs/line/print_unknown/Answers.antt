use Rattle.std.proofs.Common.{codes, decimal}
use Rattle.asp_defs.specs.Lines.{kind_text}
use Rattle.asp_print.proofs.Writing.{behind, cut, failed}
use Rattle.asp_print.proofs.line.print_unknown.Goals as goal

pub returns-in_err-print_bytes : goal.returns-in_err-print_bytes
returns-in_err-print_bytes g c =
    failed _ c.from_residual.ensures.0 (cut (codes "\n") (cut (decimal c.args.unknown.now.budget) (cut (codes " ") (cut (decimal c.args.unknown.now.level) (cut (codes " ") (cut (kind_text c.args.unknown.now.kind) (c.in_err-print_bytes.ensures)))))))

pub returns-in_err-print_spent : goal.returns-in_err-print_spent
returns-in_err-print_spent g c =
    failed _ c.from_residual-in_err-print_spent.ensures.0 (cut (codes "\n") (cut (decimal c.args.unknown.now.budget) (cut (codes " ") (cut (decimal c.args.unknown.now.level) (cut (codes " ") (behind c.in_ok-print_bytes.ensures c.in_err-print_spent.ensures))))))

pub returns-in_err-print_bytes-2 : goal.returns-in_err-print_bytes-2
returns-in_err-print_bytes-2 g c =
    failed _ c.from_residual-in_err-print_bytes-2.ensures.0 (cut (codes "\n") (cut (decimal c.args.unknown.now.budget) (cut (codes " ") (cut (decimal c.args.unknown.now.level) (behind (behind c.in_ok-print_bytes.ensures c.in_ok-print_spent.ensures) c.in_err-print_bytes-2.ensures)))))

pub returns-in_err-print_number : goal.returns-in_err-print_number
returns-in_err-print_number g c =
    failed _ c.from_residual-in_err-print_number.ensures.0 (cut (codes "\n") (cut (decimal c.args.unknown.now.budget) (cut (codes " ") (behind (behind (behind c.in_ok-print_bytes.ensures c.in_ok-print_spent.ensures) c.in_ok-print_bytes-2.ensures) c.in_err-print_number.ensures))))

pub returns-in_err-print_bytes-3 : goal.returns-in_err-print_bytes-3
returns-in_err-print_bytes-3 g c =
    failed _ c.from_residual-in_err-print_bytes-3.ensures.0 (cut (codes "\n") (cut (decimal c.args.unknown.now.budget) (behind (behind (behind (behind c.in_ok-print_bytes.ensures c.in_ok-print_spent.ensures) c.in_ok-print_bytes-2.ensures) c.in_ok-print_number.ensures) c.in_err-print_bytes-3.ensures)))

pub returns-in_err-print_count : goal.returns-in_err-print_count
returns-in_err-print_count g c =
    failed _ c.from_residual-in_err-print_count.ensures.0 (cut (codes "\n") (behind (behind (behind (behind (behind c.in_ok-print_bytes.ensures c.in_ok-print_spent.ensures) c.in_ok-print_bytes-2.ensures) c.in_ok-print_number.ensures) c.in_ok-print_bytes-3.ensures) c.in_err-print_count.ensures))

pub returns : goal.returns
returns g c =
    behind (behind (behind (behind (behind (behind c.in_ok-print_bytes.ensures c.in_ok-print_spent.ensures) c.in_ok-print_bytes-2.ensures) c.in_ok-print_number.ensures) c.in_ok-print_bytes-3.ensures) c.in_ok-print_count.ensures) c.print_bytes-4.ensures
