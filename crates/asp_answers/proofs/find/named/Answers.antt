use Rattle.std.proofs.Common.{◌∙◌, ◌<◌, ◌/◌, ℕ, Bool, true, false, List, length, get_or, ap, arith}
use Rattle.std.proofs.lemmas.List.{take_all, length-set, length-replicate}
use Rattle.asp_answers.specs.Assumptions.{names}
use Rattle.asp_answers.proofs.Loops.{marked-step, none-true}
use Rattle.asp_answers.proofs.find.named.Goals as goal

pub set-requires : goal.set-requires
set-requires c =
    let h = c.requires c.loop-code.code-index (omega arith) in
    let size = c.loop-code.invariant.0 in
    omega (arith, h, size)

pub loop-code-init : goal.loop-code-init
loop-code-init c =
    let e = c.in_ok-named.ensures in (
      ap (λ (vs : List Bool). length vs) e ∙ length-replicate c.args.atoms false,
      λ k h. ap (λ (vs : List Bool). get_or vs k false) e ∙ none-true c.args.atoms k,
    )

pub loop-code-preserved : goal.loop-code-preserved
loop-code-preserved c =
    let core = c.args.core.now in
    let i = c.loop-code.code-index in
    let within : i < length core = omega arith in
    let small = c.requires i within in
    let size = c.loop-code.invariant.0 in
    let fits : get_or core i 0 / 2 < c.args.atoms = omega (arith, small) in (
      ap (λ (vs : List Bool). length vs) c.set.ensures ∙ (length-set c.loop-code.named (get_or core i 0 / 2) true ∙ size),
      λ k h.
          ap (λ (vs : List Bool). get_or vs k false) c.set.ensures
          ∙ marked-step core i 0 c.args.atoms c.loop-code.named within size c.loop-code.invariant.1 fits k h,
    )

pub returns-clause-marks : goal.returns-clause-marks
returns-clause-marks c = λ k h.
    c.loop-code.invariant.1 k h
    ∙ ap (λ (xs : List ℕ). names xs k) (take_all c.loop-code.code-index c.args.core.now c.loop-code-test.false)
