use Rattle.std.proofs.Common.{◌<◌, true, false, length, sym, ap, ◌∙◌, append-nil, arith}
use Rattle.asp_search.specs.Found.{assignment_of}
use Rattle.asp_minimal.specs.Numbers.{leaves}
use Rattle.asp_minimal.proofs.Places.{leaving_after}
use Rattle.asp_minimal.proofs.numbers.leaving.Goals as goal
use Rattle.asp_minimal.proofs.numbers.leaving.Goals.{then-leaves+in_ok-push, else-leaves}

pub loop-atom-preserved : goal.loop-atom-preserved
loop-atom-preserved c =
    let v = assignment_of c.args.search.now.trail in
    let within : c.loop-atom.atom < length c.args.numbers.now = omega arith in
    elim c.if-leaves.branch [
      | then-leaves+in_ok-push w ↦
          rw (w.atoms-is, w.in_ok-push.ensures.items)
          (leaving_after v c.args.numbers.now c.loop-atom.atom c.loop-atom.atoms.items true within c.loop-atom.invariant
          (sym w.if-leaves.true ∙ c.leaves.ensures ∙ ap (leaves v) c.number_of.ensures))
      | else-leaves w ↦
          rw w.atoms-is
          (sym (append-nil c.loop-atom.atoms.items)
          ∙ leaving_after v c.args.numbers.now c.loop-atom.atom c.loop-atom.atoms.items false within c.loop-atom.invariant
          (sym w.if-leaves.false ∙ c.leaves.ensures ∙ ap (leaves v) c.number_of.ensures))
    ]
