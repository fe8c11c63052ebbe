use Rattle.std.proofs.Common.{arith, refl, ap, codes, ◌+◌}
use Rattle.std.specs.List.{join_by}
use Rattle.std.proofs.lemmas.List.{take_all}
use Rattle.asp_defs.specs.Sets.{ground_atom_text}
use Rattle.asp_print.specs.Members.{members}
use Rattle.asp_print.proofs.Members.{text_more, led_more, text_rest}
use Rattle.asp_print.proofs.Writing.{behind, cut, failed, as_text, nothing, answered}
use Rattle.asp_print.proofs.sets.print_members.Goals as goal

pub loop-place-init : goal.loop-place-init
loop-place-init g c = record { led = refl; text = nothing _ _ _ }

pub returns-in_err-is_led : goal.returns-in_err-is_led
returns-in_err-is_led g c =
    let rest = text_rest c.args.atoms.now c.args.set.now (c.loop-place.place + 1) in
    as_text rest.1
    (failed _ c.from_residual.ensures.0 (cut rest.0
    (as_text (text_more c.args.atoms.now c.args.set.now c.loop-place.place c.loop-place.is_led _ (omega arith) c.loop-place.invariant.led c.member.ensures)
    (behind c.loop-place.invariant.text c.in_err-is_led.ensures.text))))

pub loop-place-preserved : goal.loop-place-preserved
loop-place-preserved g c = record {
  led = led_more c.args.atoms.now c.args.set.now c.loop-place.place c.loop-place.is_led _ _ (omega arith) c.loop-place.invariant.led c.member.ensures c.in_ok-is_led.ensures.next;
  text = as_text (text_more c.args.atoms.now c.args.set.now c.loop-place.place c.loop-place.is_led _ (omega arith) c.loop-place.invariant.led c.member.ensures)
      (answered tt (behind c.loop-place.invariant.text c.in_ok-is_led.ensures.text));
}

pub returns : goal.returns
returns g c =
    as_text (ap (λ values. join_by ground_atom_text (codes ", ") (members c.args.atoms.now values)) (take_all c.loop-place.place c.args.set.now (omega arith))) c.loop-place.invariant.text
