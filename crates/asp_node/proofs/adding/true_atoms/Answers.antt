use Rattle.std.proofs.Common.{◌<◌, length, Some, ap, ◌∙◌, arith}
use Rattle.asp_node.proofs.Trues.{true_added, true_passed}
use Rattle.asp_node.proofs.adding.true_atoms.Goals as goal
use Rattle.asp_node.proofs.adding.true_atoms.Goals.{then-get+in_ok-push, else-get}

pub loop-atom-preserved : goal.loop-atom-preserved
loop-atom-preserved c =
    let within : c.loop-atom.atom < length c.args.set.now = omega arith in
    elim c.if-get.branch [
      | then-get+in_ok-push w ↦
          rw (w.atoms-is, w.in_ok-push.ensures.ok)
          (true_added c.args.set.now c.loop-atom.atom c.loop-atom.atoms within (c.get.ensures ∙ ap Some w.if-get.true) c.loop-atom.invariant)
      | else-get w ↦
          rw w.atoms-is
          (true_passed c.args.set.now c.loop-atom.atom c.loop-atom.atoms within (c.get.ensures ∙ ap Some w.if-get.false) c.loop-atom.invariant)
    ]
