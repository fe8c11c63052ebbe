use Rattle.asp_print.proofs.Forms.{untrue, behind_some}
use Rattle.asp_print.proofs.Writing.{behind, cut, failed, as_text}
use Rattle.asp_print.proofs.program.print_behind.Goals as goal

pub returns-in_err-print_bytes : goal.returns-in_err-print_bytes
returns-in_err-print_bytes g c =
    as_text (behind_some c.args.sign.now c.args.body.now (untrue _ _ _ c.is_empty.ensures c.if-is_empty.false))
    (failed _ c.from_residual.ensures.0 (cut _ c.in_err-print_bytes.ensures))

pub returns : goal.returns
returns g c =
    as_text (behind_some c.args.sign.now c.args.body.now (untrue _ _ _ c.is_empty.ensures c.if-is_empty.false))
    (behind c.in_ok-print_bytes.ensures c.print_joined.ensures)
