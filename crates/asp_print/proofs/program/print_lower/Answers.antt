use Rattle.std.proofs.Common.{rules, sym, ap, codes, SFits, w32, to_z-of_z}
use Rattle.std.specs.Fmt.{signed_decimal}
use Rattle.asp_defs.specs.Canonical.{low_text}
use Rattle.asp_print.proofs.Writing.{behind, cut, failed, as_text}
use Rattle.asp_print.proofs.program.print_lower.Goals as goal

pub returns-in_err-print_integer-in-Some : goal.returns-in_err-print_integer-in-Some
returns-in_err-print_integer-in-Some g c =
    let fits : SFits w32 c.in-Some.bound = search rules in
    failed _ c.from_residual.ensures.0
    (as_text (ap low_text (sym c.in-Some.is)) (cut (codes " ") (as_text (ap signed_decimal (to_z-of_z fits)) c.in_err-print_integer-in-Some.ensures)))

pub returns-in_ok-print_integer-in-Some : goal.returns-in_ok-print_integer-in-Some
returns-in_ok-print_integer-in-Some g c =
    let fits : SFits w32 c.in-Some.bound = search rules in
    as_text (ap low_text (sym c.in-Some.is))
    (behind (as_text (ap signed_decimal (to_z-of_z fits)) c.in_ok-print_integer-in-Some.ensures) c.print_bytes.ensures)
