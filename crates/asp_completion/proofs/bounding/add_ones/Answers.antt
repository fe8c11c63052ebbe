use Rattle.std.proofs.Common.{List, ℕ, ◌∙◌, ◌≡◌, ◌+◌, true, take, sym, subst}
use Rattle.asp_defs.specs.declared.ground.Bound.{Bound}
use Rattle.asp_defs.specs.Lists.{IsIn}
use Rattle.asp_defs.proofs.Subsets.{true_is_not_false}
use Rattle.asp_search.specs.State.{SearchState}
use Rattle.asp_completion.specs.Completions.{Completes}
use Rattle.asp_completion.specs.AtOnce.{wants_one, HasOne, HaveOne}
use Rattle.asp_completion.proofs.Loops.{item-in}
use Rattle.asp_completion.proofs.Headed.{completes-both, completes-as}
use Rattle.asp_completion.proofs.BoundSteps.{more-forth, more-back}
use Rattle.asp_completion.proofs.bounding.add_ones.Goals as goal
use Rattle.asp_completion.proofs.bounding.add_ones.Goals.{then-wants_one+in_ok-add_one, else-wants_one}

pub add_one-requires-clause-member : goal.add_one-requires-clause-member
add_one-requires-clause-member c =
    let b = c.bound-item.result in
    subst (λ (bs : List Bound). IsIn b bs) c.bounds-bounds.ensures
    (subst (λ (x : Bound). IsIn x c.bounds-bounds.result.now) (sym c.bound-item.is) (item-in c.bounds-bounds.result.now c.loop-bound.bound-index b c.loop-bound-test.true))

pub loop-bound-preserved : goal.loop-bound-preserved
loop-bound-preserved c =
    let l = c.args.level.now in
    let k = c.loop-bound.bound-index in
    let bounds = c.bounds-bounds.result.now in
    let b = c.bound-item.result in
    let P : Bound → List ℕ → Type 0 = λ x N. wants_one x ≡ true → HasOne x N in
    elim c.if-wants_one.branch [
      | then-wants_one+in_ok-add_one w ↦
          let wanted : wants_one b ≡ true = sym c.wants_one.ensures ∙ w.if-wants_one.true in
          subst (λ (s : SearchState). Completes l (HaveOne (take (k + 1) bounds)) c.args.search.now s) (sym w.search-is)
          (completes-both l (HaveOne (take k bounds)) (HasOne b) (HaveOne (take (k + 1) bounds)) c.args.search.now c.loop-bound.search
          w.add_one.new.search
          (λ N before here. more-forth (λ x. P x N) bounds k b c.loop-bound-test.true c.bound-item.is before (λ e. here))
          (λ N all.
          let parts = more-back (λ x. P x N) bounds k b c.loop-bound-test.true c.bound-item.is all in
          (parts.0, parts.1 wanted))
          c.loop-bound.invariant w.in_ok-add_one.ensures)
      | else-wants_one w ↦
          let not_wanted : wants_one b ≡ true → ⊥ = λ e. true_is_not_false (wants_one b) e (sym c.wants_one.ensures ∙ w.if-wants_one.false) in
          subst (λ (s : SearchState). Completes l (HaveOne (take (k + 1) bounds)) c.args.search.now s) (sym w.search-is)
          (completes-as l (HaveOne (take k bounds)) (HaveOne (take (k + 1) bounds)) c.args.search.now c.loop-bound.search
          (λ N before. more-forth (λ x. P x N) bounds k b c.loop-bound-test.true c.bound-item.is before (λ e. absurd (not_wanted e)))
          (λ N all. (more-back (λ x. P x N) bounds k b c.loop-bound-test.true c.bound-item.is all).0)
          c.loop-bound.invariant)
    ]
