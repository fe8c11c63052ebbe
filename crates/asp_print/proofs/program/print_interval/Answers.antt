use Rattle.std.proofs.Common.{ap, codes, to_z-of_z}
use Rattle.std.specs.Fmt.{signed_decimal}
use Rattle.asp_print.proofs.Writing.{behind, cut, failed, as_text}
use Rattle.asp_print.proofs.program.print_interval.Goals as goal

pub returns-in_err-print_integer : goal.returns-in_err-print_integer
returns-in_err-print_integer g c =
    failed _ c.from_residual.ensures.0
    (cut (signed_decimal c.args.high) (cut (codes "..") (as_text (ap signed_decimal (to_z-of_z c.ranges.low)) c.in_err-print_integer.ensures)))

pub returns-in_err-print_bytes : goal.returns-in_err-print_bytes
returns-in_err-print_bytes g c =
    failed _ c.from_residual-in_err-print_bytes.ensures.0
    (cut (signed_decimal c.args.high) (behind (as_text (ap signed_decimal (to_z-of_z c.ranges.low)) c.in_ok-print_integer.ensures) c.in_err-print_bytes.ensures))

pub returns : goal.returns
returns g c =
    behind (behind (as_text (ap signed_decimal (to_z-of_z c.ranges.low)) c.in_ok-print_integer.ensures) c.in_ok-print_bytes.ensures)
    (as_text (ap signed_decimal (to_z-of_z c.ranges.high)) c.print_integer-2.ensures)
