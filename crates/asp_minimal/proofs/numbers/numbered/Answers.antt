use Rattle.std.proofs.Common.{◌<◌, true, false, length, Some, ap, ◌∙◌, arith}
use Rattle.asp_minimal.proofs.Places.{numbers_after, count-step, count-within}
use Rattle.asp_minimal.proofs.numbers.numbered.Goals as goal
use Rattle.asp_minimal.proofs.numbers.numbered.Goals.{then-get+in_ok-push, else-get+in_ok-push-2}

pub overflow_add-next : goal.overflow_add-next
overflow_add-next c = omega (arith, count-within c.args.bits.now c.loop-place.place)

pub loop-place-preserved : goal.loop-place-preserved
loop-place-preserved c =
    let within : c.loop-place.place < length c.args.bits.now = omega arith in
    elim c.if-get.branch [
      | then-get+in_ok-push w ↦ record {
        numbered = rw (w.numbers-is, w.in_ok-push.ensures.items)
            (numbers_after c.args.bits.now c.loop-place.place true c.loop-place.numbers.items c.loop-place.next within
            (c.get.ensures ∙ ap Some w.if-get.true) c.loop-place.invariant.numbered c.loop-place.invariant.counted);
        counted = omega (arith, count-step c.args.bits.now c.loop-place.place true within (c.get.ensures ∙ ap Some w.if-get.true));
      }
      | else-get+in_ok-push-2 w ↦ record {
        numbered = rw (w.numbers-is, w.in_ok-push-2.ensures.items)
            (numbers_after c.args.bits.now c.loop-place.place false c.loop-place.numbers.items c.loop-place.next within
            (c.get.ensures ∙ ap Some w.if-get.false) c.loop-place.invariant.numbered c.loop-place.invariant.counted);
        counted = omega (arith, count-step c.args.bits.now c.loop-place.place false within (c.get.ensures ∙ ap Some w.if-get.false));
      }
    ]
