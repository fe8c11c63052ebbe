use Rattle.std.proofs.Common.{arith, ◌++◌, ap}
use Rattle.std.proofs.lemmas.List.{take_all}
use Rattle.std.specs.List.{flat_map}
use Rattle.asp_print.proofs.Writing.{behind, cut, failed, as_text, led_more, led_all, nothing}
use Rattle.asp_print.proofs.pieces.print_led.Goals as goal

pub loop-part-init : goal.loop-part-init
loop-part-init g c = nothing _ _ _

pub returns-in_err-print_bytes : goal.returns-in_err-print_bytes
returns-in_err-print_bytes g c =
    as_text (led_all g.T.Printed.text c.args.lead.now c.args.parts.now c.loop-part.part-index c.part-item.result (omega arith) c.part-item.is)
    (failed _ c.from_residual.ensures.0 (cut _ (cut _ (behind c.loop-part.invariant c.in_err-print_bytes.ensures))))

pub returns-in_err-print : goal.returns-in_err-print
returns-in_err-print g c =
    as_text (led_all g.T.Printed.text c.args.lead.now c.args.parts.now c.loop-part.part-index c.part-item.result (omega arith) c.part-item.is)
    (failed _ c.from_residual-in_err-print.ensures.0 (cut _ (behind (behind c.loop-part.invariant c.in_ok-print_bytes.ensures) c.in_err-print.ensures)))

pub loop-part-preserved : goal.loop-part-preserved
loop-part-preserved g c =
    as_text (led_more g.T.Printed.text c.args.lead.now c.args.parts.now c.loop-part.part-index c.part-item.result (omega arith) c.part-item.is)
    (behind (behind c.loop-part.invariant c.in_ok-print_bytes.ensures) c.in_ok-print.ensures)

pub returns : goal.returns
returns g c =
    as_text (ap (flat_map (λ part. c.args.lead.now ++ g.T.Printed.text part)) (take_all c.loop-part.part-index c.args.parts.now (omega arith))) c.loop-part.invariant
