use Rattle.std.proofs.Common.{ℕ, List, [], ◌∷◌, ◌++◌, sym, ap, ◌∙◌}
use Rattle.asp_plain.proofs.Gathering.{own-kept, own-dropped}
use Rattle.asp_plain.proofs.masks.own_bits.Goals as goal
use Rattle.asp_plain.proofs.masks.own_bits.Goals.{then-taken-bit-eq0+in_ok-push, else-taken-bit-eq0}

pub loop-atom-preserved : goal.loop-atom-preserved
loop-atom-preserved c =
    elim c.if-taken-bit-eq0.branch [
      | then-taken-bit-eq0+in_ok-push w ↦
          w.own-is ∙ w.in_ok-push.ensures.ok
          ∙ ap (λ (own : List ℕ). own ++ c.bit-bit.result ∷ []) c.loop-atom.invariant
          ∙ sym (own-kept c.args.lower.now c.args.base.now c.loop-atom.atom-index c.mask-taken.result c.bit-bit.result
          c.loop-atom-test.true c.mask-taken.ensures c.bit-bit.ensures w.if-taken-bit-eq0.true)
      | else-taken-bit-eq0 w ↦
          w.own-is ∙ c.loop-atom.invariant
          ∙ sym (own-dropped c.args.lower.now c.args.base.now c.loop-atom.atom-index c.mask-taken.result c.bit-bit.result
          c.loop-atom-test.true c.mask-taken.ensures c.bit-bit.ensures w.if-taken-bit-eq0.false)
    ]
