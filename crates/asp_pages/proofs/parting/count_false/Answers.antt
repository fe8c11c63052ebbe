use Rattle.std.proofs.Common.{◌+◌, ◌≤◌, ◌≡◌, sym, ◌∙◌, ap, Bool, not, cond, arith}
use Rattle.asp_pages.proofs.Finding.{counted}
use Rattle.asp_pages.proofs.parting.count_false.Goals.{then-not-get, else-not-get}
use Rattle.asp_pages.proofs.parting.count_false.Goals as goal

pub loop-atom-preserved : goal.loop-atom-preserved
loop-atom-preserved c =
    let is : c.if-not-get.count ≡ c.loop-atom.count + cond (not c.get.result) 1 0 = elim c.if-not-get.branch [
      | then-not-get w ↦ w.count-is ∙ ap (λ (t : Bool). c.loop-atom.count + cond (not t) 1 0) (sym w.if-not-get.true)
      | else-not-get w ↦
          let same : c.if-not-get.count ≡ c.loop-atom.count + 0 = omega (arith, w.count-is) in
          same ∙ ap (λ (t : Bool). c.loop-atom.count + cond (not t) 1 0) (sym w.if-not-get.false)
    ] in
    let few : c.if-not-get.count ≤ c.loop-atom.atom-index + 1 = elim c.if-not-get.branch [
      | then-not-get w ↦ omega (arith, w.count-is, c.loop-atom.invariant.1)
      | else-not-get w ↦ omega (arith, w.count-is, c.loop-atom.invariant.1)
    ] in (
      is ∙ counted c.args.set.now c.args.base.now c.loop-atom.atom-index 0 c.loop-atom.count c.get.result c.loop-atom-test.true c.get.ensures c.loop-atom.invariant.0,
      few,
    )
