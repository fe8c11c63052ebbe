use Rattle.std.proofs.Common.{List, ℕ, ◌∙◌, ◌≡◌, ◌+◌, true, take, sym, subst}
use Rattle.asp_defs.specs.declared.ground.Bound.{Bound}
use Rattle.asp_defs.specs.Lists.{IsIn}
use Rattle.asp_defs.proofs.Subsets.{true_is_not_false}
use Rattle.asp_search.specs.State.{SearchState}
use Rattle.asp_completion.specs.Completions.{Completes}
use Rattle.asp_completion.specs.AtOnce.{atoms_of, wants_no_two, HasNoTwo, HaveNoTwo}
use Rattle.asp_completion.proofs.Loops.{item-in}
use Rattle.asp_completion.proofs.Headed.{completes-both, completes-as}
use Rattle.asp_completion.proofs.BoundSteps.{more-forth, more-back}
use Rattle.asp_completion.proofs.bounding.add_no_twos.Goals as goal
use Rattle.asp_completion.proofs.bounding.add_no_twos.Goals.{then-wants_no_two+in_ok-deny_pairs, else-wants_no_two}

pub deny_pairs-requires-clause-member : goal.deny_pairs-requires-clause-member
deny_pairs-requires-clause-member c =
    let b = c.bound-item.result in
    subst (λ (bs : List Bound). IsIn b bs) c.bounds-bounds.ensures
    (subst (λ (x : Bound). IsIn x c.bounds-bounds.result.now) (sym c.bound-item.is) (item-in c.bounds-bounds.result.now c.loop-bound.bound-index b c.loop-bound-test.true))

pub loop-bound-preserved : goal.loop-bound-preserved
loop-bound-preserved c =
    let l = c.args.level.now in
    let k = c.loop-bound.bound-index in
    let bounds = c.bounds-bounds.result.now in
    let b = c.bound-item.result in
    let P : Bound → List ℕ → Type 0 = λ x N. wants_no_two x ≡ true → HasNoTwo x (atoms_of x.counted) N in
    elim c.if-wants_no_two.branch [
      | then-wants_no_two+in_ok-deny_pairs w ↦
          let wanted : wants_no_two b ≡ true = sym c.wants_no_two.ensures ∙ w.if-wants_no_two.true in
          subst (λ (s : SearchState). Completes l (HaveNoTwo (take (k + 1) bounds)) c.args.search.now s) (sym w.search-is)
          (completes-both l (HaveNoTwo (take k bounds)) (HasNoTwo b (atoms_of b.counted)) (HaveNoTwo (take (k + 1) bounds)) c.args.search.now c.loop-bound.search
          w.deny_pairs.new.search
          (λ N before here. more-forth (λ x. P x N) bounds k b c.loop-bound-test.true c.bound-item.is before (λ e. here))
          (λ N all.
          let parts = more-back (λ x. P x N) bounds k b c.loop-bound-test.true c.bound-item.is all in
          (parts.0, parts.1 wanted))
          c.loop-bound.invariant w.in_ok-deny_pairs.ensures)
      | else-wants_no_two w ↦
          let not_wanted : wants_no_two b ≡ true → ⊥ = λ e. true_is_not_false (wants_no_two b) e (sym c.wants_no_two.ensures ∙ w.if-wants_no_two.false) in
          subst (λ (s : SearchState). Completes l (HaveNoTwo (take (k + 1) bounds)) c.args.search.now s) (sym w.search-is)
          (completes-as l (HaveNoTwo (take k bounds)) (HaveNoTwo (take (k + 1) bounds)) c.args.search.now c.loop-bound.search
          (λ N before. more-forth (λ x. P x N) bounds k b c.loop-bound-test.true c.bound-item.is before (λ e. absurd (not_wanted e)))
          (λ N all. (more-back (λ x. P x N) bounds k b c.loop-bound-test.true c.bound-item.is all).0)
          c.loop-bound.invariant)
    ]
