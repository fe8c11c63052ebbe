use Rattle.std.proofs.Common.{arith, ap, map}
use Rattle.std.proofs.lemmas.List.{take_all}
use Rattle.asp_bits.specs.Places.{true_places}
use Rattle.asp_defs.specs.Sets.{set_lines}
use Rattle.asp_print.proofs.Writing.{behind, cut, failed, as_text, nothing}
use Rattle.asp_print.proofs.Members.{lines_more, lines_rest}
use Rattle.asp_print.proofs.sets.print_lines.Goals as goal

pub loop-set-init : goal.loop-set-init
loop-set-init g c = nothing _ _ _

pub returns-in_err-print_set_line : goal.returns-in_err-print_set_line
returns-in_err-print_set_line g c =
    as_text (lines_rest c.args.bases.now c.args.sets.now c.loop-set.set-index c.set-item.result (omega arith) c.set-item.is)
    (failed _ c.from_residual.ensures.0 (cut _ (behind c.loop-set.invariant c.in_err-print_set_line.ensures)))

pub loop-set-preserved : goal.loop-set-preserved
loop-set-preserved g c =
    as_text (lines_more c.args.bases.now c.args.sets.now c.loop-set.set-index c.set-item.result (omega arith) c.set-item.is)
    (behind c.loop-set.invariant c.in_ok-print_set_line.ensures)

pub returns : goal.returns
returns g c =
    as_text (ap (λ sets. set_lines c.args.bases.now (map true_places sets)) (take_all c.loop-set.set-index c.args.sets.now (omega arith))) c.loop-set.invariant
