use Rattle.std.proofs.Common.{codes}
use Rattle.std.specs.List.{join_by}
use Rattle.asp_defs.specs.Canonical.{element_text, high_text}
use Rattle.asp_print.proofs.Writing.{behind, cut, failed}
use Rattle.asp_print.proofs.program.print_choice.Goals as goal

pub returns-in_err-print_lower : goal.returns-in_err-print_lower
returns-in_err-print_lower g c =
    failed _ c.from_residual.ensures.0
    (cut (high_text c.args.high) (cut (codes "}") (cut (join_by element_text (codes "; ") c.args.elements.now) (cut (codes "{") c.in_err-print_lower.ensures))))

pub returns-in_err-print_bytes : goal.returns-in_err-print_bytes
returns-in_err-print_bytes g c =
    failed _ c.from_residual-in_err-print_bytes.ensures.0
    (cut (high_text c.args.high) (cut (codes "}") (cut (join_by element_text (codes "; ") c.args.elements.now) (behind c.in_ok-print_lower.ensures c.in_err-print_bytes.ensures))))

pub returns-in_err-print_joined : goal.returns-in_err-print_joined
returns-in_err-print_joined g c =
    failed _ c.from_residual-in_err-print_joined.ensures.0
    (cut (high_text c.args.high) (cut (codes "}") (behind (behind c.in_ok-print_lower.ensures c.in_ok-print_bytes.ensures) c.in_err-print_joined.ensures)))

pub returns-in_err-print_bytes-2 : goal.returns-in_err-print_bytes-2
returns-in_err-print_bytes-2 g c =
    failed _ c.from_residual-in_err-print_bytes-2.ensures.0
    (cut (high_text c.args.high) (behind (behind (behind c.in_ok-print_lower.ensures c.in_ok-print_bytes.ensures) c.in_ok-print_joined.ensures) c.in_err-print_bytes-2.ensures))

pub returns : goal.returns
returns g c =
    behind (behind (behind (behind c.in_ok-print_lower.ensures c.in_ok-print_bytes.ensures) c.in_ok-print_joined.ensures) c.in_ok-print_bytes-2.ensures) c.print_upper.ensures
