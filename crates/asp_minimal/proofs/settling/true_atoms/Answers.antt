use Rattle.std.proofs.Common.{◌<◌, true, false, length, sym, ◌∙◌, append-nil, arith}
use Rattle.asp_minimal.proofs.Settled.{places_after}
use Rattle.asp_minimal.proofs.settling.true_atoms.Goals as goal
use Rattle.asp_minimal.proofs.settling.true_atoms.Goals.{then-get+in_ok-push, else-get}

pub loop-place-preserved : goal.loop-place-preserved
loop-place-preserved c =
    let within : c.loop-place.place < length c.args.bits.now = omega arith in
    elim c.if-get.branch [
      | then-get+in_ok-push w ↦
          rw (w.atoms-is, w.in_ok-push.ensures.items)
          (places_after c.args.bits.now c.loop-place.place true c.loop-place.atoms.items within (rw (sym w.if-get.true) c.get.ensures) c.loop-place.invariant)
      | else-get w ↦
          rw w.atoms-is
          (sym (append-nil c.loop-place.atoms.items)
          ∙ places_after c.args.bits.now c.loop-place.place false c.loop-place.atoms.items within (rw (sym w.if-get.false) c.get.ensures) c.loop-place.invariant)
    ]
