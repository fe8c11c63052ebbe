-- What a level's table says of the candidates for an outer move.
use Rattle.std.proofs.Common.{◌≡◌, ℕ, Bool, true, false, not, ◌&&◌, ◌||◌, eqb, List, [], ◌∷◌, map, refl, sym, ap, ◌∙◌, subst, inl, inr}
use Rattle.std.specs.List.{list_any, filter, fold}
use Rattle.std.specs.Int.RustNames.{bit_and}
use Rattle.std.proofs.lemmas.Bool.{and_parts, or_cases, not-true}
use Rattle.asp_defs.specs.declared.ground.GroundRule.{GroundRule}
use Rattle.asp_defs.specs.declared.ground.Bound.{Bound}
use Rattle.asp_defs.specs.Lists.{IsIn, numbers_from}
use Rattle.asp_defs.specs.Interpretations.{holds, subsets}
use Rattle.asp_defs.proofs.Lists.{map_at}
use Rattle.asp_defs.proofs.Subsets.{subset-holds}
use Rattle.asp_plain.specs.declared.masks.MaskedRule.{MaskedRule}
use Rattle.asp_plain.specs.declared.masks.Level.{Level}
use Rattle.asp_plain.specs.Masks.{mask_of, with_atom, masked, HaveSameMembers, candidates, satisfies_part, is_model_of_reduct, is_model_between, has_smaller_model, is_answer}
use Rattle.asp_plain.specs.MaskedBounds.{masked_bound, is_bounded_answer}
use Rattle.asp_plain.specs.Levels.{IsMasked, has_answer}
use Rattle.asp_plain.proofs.Atoms.{bit, same_masks, bit-and, bit-fold, bit-mask_of, covers}
use Rattle.asp_plain.proofs.Repeated.{all-members}
use Rattle.asp_plain.proofs.Standing.{Stands, holds-filter, stands-within, candidates-atoms}

-- tests that say the same of all members
any_members : {X : Type 0} (f g : X → Bool) (xs : List X) → ((x : X) → IsIn x xs → f x ≡ g x) → list_any f xs ≡ list_any g xs
any_members f g [] h = refl
any_members f g (x ∷ xs) h =
    ap (λ t. t || list_any f xs) (h x (inl refl)) ∙ ap (λ t. g x || t) (any_members f g xs (λ y i. h y (inr i)))

-- lists with the same rules have the same answer sets
pub answer-members : (rules others : List MaskedRule) (outer s : ℕ) → HaveSameMembers rules others
    → is_answer rules outer s ≡ is_answer others outer s
answer-members rules others outer s members =
    let models : (k : ℕ) → is_model_of_reduct rules s k ≡ is_model_of_reduct others s k =
    λ k. all-members (λ rule. satisfies_part rule s k) rules others members in
    ap (λ t. t && not (has_smaller_model rules outer s)) (models s)
    ∙ ap (λ t. is_model_of_reduct others s s && not t)
    (any_members (is_model_between rules outer s) (is_model_between others outer s) (numbers_from 0 s)
    (λ k i. ap (λ t. eqb (bit_and outer k) outer && (eqb (bit_and k s) k && t)) (models k)))

-- ---- the candidates

-- o: in the outer move; l: in the lower base; k: in the own part
only_outer : (o k l : Bool) → (o ≡ true → l ≡ true) → (k ≡ true → l ≡ false) → ((o || k) && l) ≡ o
only_outer true k l f g = f refl
only_outer false true l f g = g refl
only_outer false false l f g = refl

-- a masked level over a base and a lower base, and an outer move M of the lower base
module _ (G : List GroundRule) (bounds : List Bound) (level : Level) (lower base M : List ℕ) (m : ℕ) (over : IsMasked lower base G bounds level)
    (outer : Stands lower M m) (nested : (a : ℕ) → holds lower a ≡ true → holds base a ≡ true) where
  abbrev own : List ℕ
  own = filter (λ a. not (holds lower a)) base

  -- the table says of a candidate whether it is an answer set with the outer move fixed
  pub told : (s : ℕ) → IsIn s (candidates m level.own) → has_answer level s ≡ is_bounded_answer (map masked G) (map masked_bound bounds) m s
  told s i =
      let w = map_at (fold with_atom m) (subsets own) s
      (subst (IsIn s) (ap (candidates m) over.own ∙ candidates-atoms m own) i) in
      let bits : (a : ℕ) → bit s a ≡ (bit m a || holds w.0 a) = λ a. ap (λ x. bit x a) w.2 ∙ bit-fold w.0 m a in
      let own_at : (a : ℕ) → holds w.0 a ≡ true → (holds base a ≡ true) × (not (holds lower a) ≡ true) =
      λ a h.
      and_parts (holds base a) (not (holds lower a))
      (sym (holds-filter (λ b. not (holds lower b)) base a) ∙ subset-holds own w.0 a w.1 h) in
      let inside : bit_and s (mask_of base) ≡ s =
      covers s (mask_of base) (λ a h.
      bit-mask_of base a ∙ elim (or_cases (bit m a) (holds w.0 a) (sym (bits a) ∙ h)) [
        | inl e ↦ nested a (stands-within lower M m a outer e)
        | inr e ↦ (own_at a e).0
      ]) in
      let reached : bit_and s (mask_of lower) ≡ m =
      same_masks (bit_and s (mask_of lower)) m (λ a.
      bit-and s (mask_of lower) a
      ∙ (ap (λ t. bit s a && t) (bit-mask_of lower a)
      ∙ (ap (λ t. t && holds lower a) (bits a)
      ∙ only_outer (bit m a) (holds w.0 a) (holds lower a) (λ e. stands-within lower M m a outer e)
      (λ e. not-true (holds lower a) ((own_at a e).1))))) in
      over.answers s inside ∙ ap (λ o. is_bounded_answer (map masked G) (map masked_bound bounds) o s) reached
