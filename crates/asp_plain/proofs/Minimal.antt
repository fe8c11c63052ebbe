-- Answer sets of a level, by masks and by lists.
use Rattle.std.proofs.Common.{◌≡◌, ◌<◌, ◌+◌, ℕ, zero, suc, Bool, true, false, not, ◌&&◌, eqb, List, ◌++◌, map, refl, sym, ap, ◌∙◌, subst, inl, inr, arith}
use Rattle.std.specs.List.{list_all, filter}
use Rattle.std.specs.Int.RustNames.{bit_and}
use Rattle.std.proofs.lemmas.Nat.{and_le_r}
use Rattle.std.proofs.lemmas.Bool.{eqb-true, eq-eqb, cases_eq, both_ways, and_parts, and_from, not-true, not_from_false, false_from_ne_true}
use Rattle.asp_defs.specs.declared.ground.GroundRule.{GroundRule}
use Rattle.asp_defs.specs.declared.ground.Bound.{Bound}
use Rattle.asp_defs.specs.Lists.{IsIn, numbers_from}
use Rattle.asp_defs.specs.Interpretations.{holds, subsets, same, proper_subsets}
use Rattle.asp_defs.specs.Truth.{is_model}
use Rattle.asp_defs.specs.Reduct.{reduct}
use Rattle.asp_defs.specs.AnswerSets.{is_answer_set, is_bounded_answer_set}
use Rattle.asp_defs.specs.Values.{fix}
use Rattle.asp_defs.specs.Games.{ascends}
use Rattle.asp_defs.proofs.Lists.{all_at, all_from, any_at, any_from, filter_at, filter_from}
use Rattle.asp_defs.proofs.Subsets.{holds_at, holds_from, subset-holds, subset_full, same_at, same_from}
use Rattle.asp_plain.specs.declared.masks.MaskedRule.{MaskedRule}
use Rattle.asp_plain.specs.Masks.{masked, mask_of, is_model_of_reduct, is_model_between, has_smaller_model, is_answer}
use Rattle.asp_plain.specs.MaskedBounds.{masked_bound, meets_all, is_bounded_answer}
use Rattle.asp_plain.proofs.Atoms.{bit, same_test, same_masks, all_held, all_to, covers, covers_back}
use Rattle.asp_plain.proofs.Beside.{Within}
use Rattle.asp_plain.proofs.Counted.{meets_all-same}
use Rattle.asp_plain.proofs.Fixing.{is_fixed, false_atoms, model-fixed}
use Rattle.asp_plain.proofs.Models.{models-same}
use Rattle.asp_plain.proofs.Standing.{Stands, stands-filter, stands-mask_of}

-- the numbers below a count
pub number_at : (first count k n : ℕ) → first + k ≡ n → k < count → IsIn n (numbers_from first count)
number_at first zero k n at h = absurd (omega arith)
number_at first (suc count) zero n at h = inl (omega arith)
number_at first (suc count) (suc k) n at h = inr (number_at (suc first) count k n (omega arith) (omega arith))

pub below_count : (first count k : ℕ) → IsIn k (numbers_from first count) → k < first + count
below_count first zero k i = absurd i
below_count first (suc count) k (inl e) = omega arith
below_count first (suc count) k (inr i) = let h = below_count (suc first) count k i in omega arith

-- a part that differs from the whole is smaller
pub less_part : (k s : ℕ) → Within k s → (k ≡ s → ⊥) → k < s
less_part k s ks other =
    let kept = covers k s ks in
    let le = and_le_r k s in
    elim (cases_eq k s) [ inl equal ↦ absurd (other equal) | inr differ ↦ omega arith ]

and_with_true : (p q : Bool) → q ≡ true → p ≡ (p && q)
and_with_true true q h = sym h
and_with_true false q h = refl

-- a level's rules, an outer move M of the lower base, and a set J that has exactly M of it
module _ (G : List GroundRule) (lower base M J : List ℕ) (m s : ℕ) (outer : Stands lower M m) (set : Stands base J s)
    (ascending : ascends J ≡ true) (kept : Within m s) (fixed : is_fixed lower M J ≡ true) where
  abbrev rules : List MaskedRule
  rules = map masked G

  -- a mask is a model of the reduct where its list is
  models : (K : List ℕ) (k : ℕ) → ((a : ℕ) → holds K a ≡ bit k a)
      → is_model_of_reduct rules s k ≡ is_model K (reduct G J)
  models K k marks = models-same G J K s k set.marks marks

  -- a smaller model of the rules with the outer move fixed gives a part
  found : (K : List ℕ) → IsIn K (proper_subsets J) → is_model K (reduct (G ++ fix lower M) J) ≡ true
      → has_smaller_model rules m s ≡ true
  found K proper model =
      let is_proper = filter_at (λ I. not (same I J)) (subsets J) K proper in
      let stands : Stands J K (mask_of K) = stands-mask_of J K is_proper.0 in
      let parts = and_parts (is_model K (reduct G J)) (is_fixed lower M K) (sym (model-fixed G lower M J K) ∙ model) in
      let has_move = (and_parts (list_all (holds K) M) (list_all (λ a. not (holds K a)) (false_atoms lower M)) parts.1).0 in
      let mk : Within m (mask_of K) = λ a h. sym (stands.marks a) ∙ all_to (holds K) M has_move a (outer.marks a ∙ h) in
      let ks : Within (mask_of K) s = λ a h. sym (set.marks a) ∙ subset-holds J K a stands.inside (stands.marks a ∙ h) in
      let other : mask_of K ≡ s → ⊥ =
      λ e.
      let full : K ≡ J =
      subset_full J K ascending stands.inside (λ a i.
      holds_at K a (stands.marks a ∙ (ap (λ x. bit x a) e ∙ (sym (set.marks a) ∙ holds_from J a i)))) in
      both_ways (same K J) (not-true (same K J) is_proper.1) (subst (λ I. same K I ≡ true) full (same_from K)) in
      any_from (is_model_between rules m s) (numbers_from 0 s) (mask_of K)
      (number_at 0 s (mask_of K) (mask_of K) (omega arith) (less_part (mask_of K) s ks other))
      (and_from (eqb (bit_and m (mask_of K)) m) (eqb (bit_and (mask_of K) s) (mask_of K) && is_model_of_reduct rules s (mask_of K))
      (eq-eqb (bit_and m (mask_of K)) m (covers m (mask_of K) mk))
      (and_from (eqb (bit_and (mask_of K) s) (mask_of K)) (is_model_of_reduct rules s (mask_of K))
      (eq-eqb (bit_and (mask_of K) s) (mask_of K) (covers (mask_of K) s ks))
      (models K (mask_of K) stands.marks ∙ parts.0)))

  -- a part gives a smaller model
  found_back : has_smaller_model rules m s ≡ true
      → (K : List ℕ) × IsIn K (proper_subsets J) × (is_model K (reduct (G ++ fix lower M) J) ≡ true)
  found_back h =
      let w = any_at (is_model_between rules m s) (numbers_from 0 s) h in
      let k : ℕ = w.0 in
      let tests = and_parts (eqb (bit_and m k) m) (eqb (bit_and k s) k && is_model_of_reduct rules s k) w.2 in
      let more = and_parts (eqb (bit_and k s) k) (is_model_of_reduct rules s k) tests.1 in
      let mk : Within m k = covers_back m k (eqb-true (bit_and m k) m tests.0) in
      let ks : Within k s = covers_back k s (eqb-true (bit_and k s) k more.0) in
      let less : k < s = let below = below_count 0 s w.0 w.1 in omega arith in
      let K : List ℕ = filter (bit k) J in
      let stands : Stands J K k = stands-filter J k (λ a e. set.marks a ∙ ks a e) in
      let proper : IsIn K (proper_subsets J) =
      filter_from (λ I. not (same I J)) (subsets J) K stands.inside
      (not_from_false (same K J) (false_from_ne_true (same K J) (λ e.
      let equal : k ≡ s = same_masks k s (λ a. sym (stands.marks a) ∙ (ap (λ I. holds I a) (same_at K J e) ∙ set.marks a)) in
      omega arith))) in
      let has_move : list_all (holds K) M ≡ true =
      all_held (holds K) M (λ a e. stands.marks a ∙ mk a (sym (outer.marks a) ∙ e)) in
      let no_more : list_all (λ a. not (holds K a)) (false_atoms lower M) ≡ true =
      all_held (λ a. not (holds K a)) (false_atoms lower M) (λ a e.
      not_from_false (holds K a) (false_from_ne_true (holds K a) (λ held.
      both_ways (holds J a)
      (not-true (holds J a) (all_to (λ b. not (holds J b)) (false_atoms lower M)
      ((and_parts (list_all (holds J) M) (list_all (λ b. not (holds J b)) (false_atoms lower M)) fixed).1) a e))
      (subset-holds J K a stands.inside held)))) in (
        K,
        proper,
        model-fixed G lower M J K
            ∙ and_from (is_model K (reduct G J)) (is_fixed lower M K) (sym (models K k stands.marks) ∙ more.1)
            (and_from (list_all (holds K) M) (list_all (λ a. not (holds K a)) (false_atoms lower M)) has_move no_more),
      )

  -- a set is an answer set by masks where it is one by lists
  pub answer-same : is_answer rules m s ≡ is_answer_set (G ++ fix lower M) J
  answer-same =
      let R = reduct (G ++ fix lower M) J in
      ap (λ t. t && not (has_smaller_model rules m s))
      (models J s set.marks
      ∙ (and_with_true (is_model J (reduct G J)) (is_fixed lower M J) fixed ∙ sym (model-fixed G lower M J J)))
      ∙ ap (λ t. is_model J R && t)
      (same_test (not (has_smaller_model rules m s)) (list_all (λ K. not (is_model K R)) (proper_subsets J))
      (λ h. all_from (λ K. not (is_model K R)) (proper_subsets J) (λ K i.
      not_from_false (is_model K R) (false_from_ne_true (is_model K R) (λ e.
      both_ways (has_smaller_model rules m s) (not-true (has_smaller_model rules m s) h) (found K i e)))))
      (λ h. not_from_false (has_smaller_model rules m s) (false_from_ne_true (has_smaller_model rules m s) (λ e.
      let w = found_back e in
      both_ways (is_model w.0 R) (not-true (is_model w.0 R) (all_at (λ K. not (is_model K R)) (proper_subsets J) w.0 h w.1))
      w.2))))

  -- so it is with bounds
  pub bounded-same : (bounds : List Bound) → is_bounded_answer rules (map masked_bound bounds) m s ≡ is_bounded_answer_set (G ++ fix lower M) bounds J
  bounded-same bounds =
      ap (λ t. t && meets_all (map masked_bound bounds) s) answer-same
      ∙ ap (λ t. is_answer_set (G ++ fix lower M) J && t) (meets_all-same J s set.marks ascending bounds)
