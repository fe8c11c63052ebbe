use Rattle.std.proofs.Common.{◌<◌, true, false, length, Some, ap, ◌∙◌, arith}
use Rattle.asp_minimal.proofs.Places.{count-step, count-within}
use Rattle.level_tests.proofs.minimality.count_true.Goals as goal
use Rattle.level_tests.proofs.minimality.count_true.Goals.{then-get, else-get}

pub overflow_add-count : goal.overflow_add-count
overflow_add-count c = omega (arith, count-within c.args.bits.now c.loop-place.place)

pub loop-place-preserved : goal.loop-place-preserved
loop-place-preserved c =
    let within : c.loop-place.place < length c.args.bits.now = omega arith in
    elim c.if-get.branch [
      | then-get w ↦ omega (arith, count-step c.args.bits.now c.loop-place.place true within (c.get.ensures ∙ ap Some w.if-get.true))
      | else-get w ↦ omega (arith, count-step c.args.bits.now c.loop-place.place false within (c.get.ensures ∙ ap Some w.if-get.false))
    ]
