use Rattle.std.proofs.Common.{arith, sym, ◌∙◌, ap}
use Rattle.std.specs.List.{join_by}
use Rattle.asp_print.proofs.Writing.{behind, cut, failed, as_text, first_and_rest}
use Rattle.asp_print.proofs.pieces.print_joined.Goals as goal

pub returns-in_err-print-in-len1-up : goal.returns-in_err-print-in-len1-up
returns-in_err-print-in-len1-up g c =
    as_text (ap (join_by g.T.Printed.text c.args.between.now) (sym (first_and_rest c.as_slice.result.now c.first-item.result (omega arith) c.first-item.is) ∙ c.as_slice.ensures))
    (failed _ c.from_residual.ensures.0 (cut _ c.in_err-print-in-len1-up.ensures))

pub returns-in_ok-print-in-len1-up : goal.returns-in_ok-print-in-len1-up
returns-in_ok-print-in-len1-up g c =
    as_text (ap (join_by g.T.Printed.text c.args.between.now) (sym (first_and_rest c.as_slice.result.now c.first-item.result (omega arith) c.first-item.is) ∙ c.as_slice.ensures))
    (behind c.in_ok-print-in-len1-up.ensures c.print_led.ensures)
