use Rattle.std.proofs.Common.{codes, decimal}
use Rattle.asp_defs.specs.Lines.{variable_text}
use Rattle.asp_print.proofs.Writing.{behind, cut, failed}
use Rattle.asp_print.proofs.line.print_unsafe.Goals as goal

pub returns-in_err-print_bytes : goal.returns-in_err-print_bytes
returns-in_err-print_bytes g c =
    failed _ c.from_residual.ensures.0 (cut (codes "\n") (cut (decimal c.args.rule) (cut (codes " in rule ") (cut (variable_text c.args.variable.now) (c.in_err-print_bytes.ensures)))))

pub returns-in_err-print_variable : goal.returns-in_err-print_variable
returns-in_err-print_variable g c =
    failed _ c.from_residual-in_err-print_variable.ensures.0 (cut (codes "\n") (cut (decimal c.args.rule) (cut (codes " in rule ") (behind c.in_ok-print_bytes.ensures c.in_err-print_variable.ensures))))

pub returns-in_err-print_bytes-2 : goal.returns-in_err-print_bytes-2
returns-in_err-print_bytes-2 g c =
    failed _ c.from_residual-in_err-print_bytes-2.ensures.0 (cut (codes "\n") (cut (decimal c.args.rule) (behind (behind c.in_ok-print_bytes.ensures c.in_ok-print_variable.ensures) c.in_err-print_bytes-2.ensures)))

pub returns-in_err-print_number : goal.returns-in_err-print_number
returns-in_err-print_number g c =
    failed _ c.from_residual-in_err-print_number.ensures.0 (cut (codes "\n") (behind (behind (behind c.in_ok-print_bytes.ensures c.in_ok-print_variable.ensures) c.in_ok-print_bytes-2.ensures) c.in_err-print_number.ensures))

pub returns : goal.returns
returns g c =
    behind (behind (behind (behind c.in_ok-print_bytes.ensures c.in_ok-print_variable.ensures) c.in_ok-print_bytes-2.ensures) c.in_ok-print_number.ensures) c.print_bytes-3.ensures
