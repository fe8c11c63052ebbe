use Rattle.std.proofs.Common.{rules, sym, ap, SFits, w32, to_z-of_z}
use Rattle.std.specs.Fmt.{signed_decimal}
use Rattle.asp_defs.specs.Canonical.{high_text}
use Rattle.asp_print.proofs.Writing.{behind, cut, failed, as_text}
use Rattle.asp_print.proofs.program.print_upper.Goals as goal

pub returns-in_err-print_bytes-in-Some : goal.returns-in_err-print_bytes-in-Some
returns-in_err-print_bytes-in-Some g c =
    failed _ c.from_residual.ensures.0 (as_text (ap high_text (sym c.in-Some.is)) (cut (signed_decimal c.in-Some.bound) c.in_err-print_bytes-in-Some.ensures))

pub returns-in_ok-print_bytes-in-Some : goal.returns-in_ok-print_bytes-in-Some
returns-in_ok-print_bytes-in-Some g c =
    let fits : SFits w32 c.in-Some.bound = search rules in
    as_text (ap high_text (sym c.in-Some.is))
    (behind c.in_ok-print_bytes-in-Some.ensures (as_text (ap signed_decimal (to_z-of_z fits)) c.print_integer.ensures))
