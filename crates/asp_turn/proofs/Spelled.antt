-- The rule, in the words of the law.
use Rattle.std.proofs.Common.{◌≡◌, ℕ, List, [], ◌∷◌, Option, Some, None, ⊎_elim, set, ap, sym, subst, ◌∙◌}
use mathlib.Core.Logic.{dite}
use mathlib.Core.Option.{some, some-injective}
use native.Mathlib.Decide.{ℕ_discrete}
use lib.ListN.{get_elem?}
use Rattle.atomic_table.proofs.Lists.{set_else}
use mathlib.Core.List.{IsPrefix}
use Rattle.atomic_table.specs.Table.{State, stepped}
use Rattle.asp_turn.specs.declared.view.View.{View}
use Rattle.asp_turn.specs.Rule.{IsCounted, AtHome, IsOut, Running}
use Rattle.asp_turn.specs.Law.{IsFree, IsTaken, RestsAtHome, HasOneHolder, CountsOnlyRefusals}
use Rattle.asp_turn.proofs.Views.{set_there, count_stays}

both_words : (ws : List ℕ) → ws ≡ 0 ∷ [] → ws ≡ 1 ∷ [] → ⊥
both_words ws e f = cc

no_some : {A : Type 0} (o : Option A) (x : A) → o ≡ Some x → o ≡ None → ⊥
no_some o x e n = cc

module _ {V W I : Type 0} (world : V → W) (story_of : V → List I) (one : W) where
  pub rests_at_home : (s : State (Option V) (View W I)) → Running world story_of one s → IsFree s → RestsAtHome world story_of one s
  rests_at_home s r free = ⊎_elim
      (λ (h : AtHome world story_of one r.story s). (
        h.value,
        h.home,
        h.stands,
        (λ j v at. let k = r.knows j v at in (k.world, subst (λ (xs : List I). IsPrefix v.seen xs) (sym h.tells) k.seen)),
        h.idle,
      ))
      (λ (h : IsOut r.story s). absurd (both_words s.words free h.word)) r.place

  pub has_one_holder : (s : State (Option V) (View W I)) → Running world story_of one s → IsTaken s → HasOneHolder one s
  has_one_holder s r taken = ⊎_elim
      (λ (h : AtHome world story_of one r.story s). absurd (both_words s.words h.word taken))
      (λ (h : IsOut r.story s). (
        h.holder,
        h.view,
        r.story,
        h.home,
        h.sits,
        h.holds,
        (λ j v at. let k = r.knows j v at in (k.world, k.seen)),
        h.idle,
      )) r.place

  pub counts_only_refusals : CountsOnlyRefusals (Running world story_of one)
  counts_only_refusals s id word hand v w act r free at r' = ⊎_elim
      (λ (h : AtHome world story_of one r.story s).
      let there : get_elem? (set s.views id w) id ≡ some w = set_there s.views id v w at in
      let now : IsCounted (set s.views id w) id w = ⊎_elim
      (λ (h' : AtHome world story_of one r'.story (stepped s 0 word id hand w act)). h'.counted id w there)
      (λ (h' : IsOut r'.story (stepped s 0 word id hand w act)). dite (ℕ_discrete h'.holder id)
      (λ e. let here : get_elem? (set s.views id w) id ≡ some h'.view = ap (λ (j : ℕ). get_elem? (set s.views id w) j) (sym e) ∙ h'.sits in
      let same : h'.view ≡ w = some-injective h'.view w (sym here ∙ there) in
      subst (λ (y : ℕ × View W I). IsCounted (set s.views id w) y.0 y.1) (λ i. (e i, same i)) h'.counted)
      (λ ne. absurd (no_some h'.view.taken r'.story h'.holds (h.idle h'.holder h'.view (sym (set_else s.views id h'.holder w ne) ∙ h'.sits)))))
      r'.place in
      count_stays s.views id v w at r.rises r'.rises (h.counted id v at) now)
      (λ (h : IsOut r.story s). absurd (both_words s.words free h.word)) r.place
