use Rattle.std.proofs.Common.{◌<◌, length, Some, ap, ◌∙◌, arith}
use Rattle.asp_entry.proofs.CubeLiterals.{literal_added, literal_left_out}
use Rattle.asp_entry.proofs.literals.literals.Goals as goal
use Rattle.asp_entry.proofs.literals.literals.Goals.{then-get+in_ok-push, else-get}

pub loop-atom-preserved : goal.loop-atom-preserved
loop-atom-preserved c =
    let within : c.loop-atom.atom < length c.args.atoms.now = omega arith in
    elim c.if-get.branch [
      | then-get+in_ok-push w ↦
          rw (w.lits-is, w.in_ok-push.ensures.ok)
          (literal_added c.args.set.now c.args.atoms.now c.loop-atom.atom _ c.loop-atom.lits.items within
          (c.get.ensures ∙ ap Some w.if-get.true) w.get-then-get.ensures c.loop-atom.invariant)
      | else-get w ↦
          rw w.lits-is
          (literal_left_out c.args.set.now c.args.atoms.now c.loop-atom.atom c.loop-atom.lits.items within
          (c.get.ensures ∙ ap Some w.if-get.false) c.loop-atom.invariant)
    ]
