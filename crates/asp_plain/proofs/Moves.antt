-- The moves of a level, by masks and by lists.
use Rattle.std.proofs.Common.{◌≡◌, ℕ, Bool, true, false, not, ◌&&◌, ◌||◌, List, [], ◌∷◌, ◌++◌, map, refl, sym, ap, ◌∙◌, subst, inl, inr}
use Rattle.std.specs.List.{list_any, list_all, filter, fold}
use Rattle.std.proofs.lemmas.Bool.{lt-ltb, both_ways, and_parts, and_from, or_cases, or_left, or_right, not-true, not_from_false, false_from_ne_true, cases_Bool}
use Rattle.asp_defs.specs.declared.ground.GroundRule.{GroundRule}
use Rattle.asp_defs.specs.declared.ground.Bound.{Bound}
use Rattle.asp_defs.specs.Lists.{IsIn, is_empty}
use Rattle.asp_defs.specs.Interpretations.{holds, subsets}
use Rattle.asp_defs.specs.Truth.{is_model}
use Rattle.asp_defs.specs.Reduct.{reduct}
use Rattle.asp_defs.specs.AnswerSets.{is_bounded_answer_set, answer_sets}
use Rattle.asp_defs.specs.Values.{fix}
use Rattle.asp_defs.specs.Games.{ascends}
use Rattle.asp_defs.proofs.Lists.{all_at, all_from, any_at, any_from, filter_at, filter_from, map_at, map_from}
use Rattle.asp_defs.proofs.Subsets.{subset-holds, subset-member, subset_at, filter-subset, ascends-tail, ascends-member}
use Rattle.asp_defs.proofs.AnswerSetLaws.{answer_set-model, bounded_at}
use Rattle.asp_reduct.proofs.Truths.{ascends-cons}
use Rattle.asp_plain.specs.declared.masks.Level.{Level}
use Rattle.asp_plain.specs.Masks.{with_atom, mask_of, candidates}
use Rattle.asp_plain.specs.Levels.{IsMasked, has_answer}
use Rattle.asp_plain.proofs.Atoms.{bit, same_test, same_masks, bit-fold, all_held, all_to}
use Rattle.asp_plain.proofs.Beside.{Within}
use Rattle.asp_plain.proofs.Fixing.{is_fixed, false_atoms, model-fixed}
use Rattle.asp_plain.proofs.Known.{told}
use Rattle.asp_plain.proofs.Minimal.{bounded-same}
use Rattle.asp_plain.proofs.Standing.{Stands, holds-filter, stands-filter, stands-mask_of, stands-within, candidates-atoms}

-- the subsets of an ascending base ascend
pub subset-ascends : (B J : List ℕ) → ascends B ≡ true → IsIn J (subsets B) → ascends J ≡ true
subset-ascends [] J up (inl e) = ap ascends e
subset-ascends [] J up (inr i) = absurd i
subset-ascends (b ∷ B) J up i = elim (subset_at b B J i) [
  | inl inside ↦ subset-ascends B J (ascends-tail b B up) inside
  | inr begins ↦
      ap ascends begins.2
      ∙ ascends-cons b begins.0 (subset-ascends B begins.0 (ascends-tail b B up) begins.1)
      (λ x member. lt-ltb b x (ascends-member b B x up (subset-member B begins.0 x begins.1 member)))
]

-- m: in the outer move; b: in the base; l: in the lower base; j: in the set
from_parts : (m b l j : Bool) → (m ≡ true → j ≡ true) → (j ≡ true → b ≡ true) → (j ≡ true → l ≡ true → m ≡ true)
    → (m || ((b && not l) && j)) ≡ j
from_parts true b l j f g h = sym (f refl)
from_parts false true false j f g h = refl
from_parts false true true true f g h = h refl refl
from_parts false true true false f g h = refl
from_parts false false l true f g h = g refl
from_parts false false l false f g h = refl

-- a list with a member isn't empty, and a list that isn't has one
some_member : {X : Type 0} (x : X) (xs : List X) → IsIn x xs → not (is_empty xs) ≡ true
some_member x [] i = absurd i
some_member x (y ∷ ys) i = refl

first_member : {X : Type 0} (xs : List X) → not (is_empty xs) ≡ true → (x : X) × IsIn x xs
first_member [] h = absurd (both_ways false refl h)
first_member (x ∷ xs) h = (x, inl refl)

-- a masked level over a base and a lower base, and an outer move M of the lower base
module _ (G : List GroundRule) (bounds : List Bound) (level : Level) (lower base M : List ℕ) (m : ℕ) (masked : IsMasked lower base G bounds level)
    (outer : Stands lower M m) (ascending : ascends base ≡ true)
    (nested : (a : ℕ) → holds lower a ≡ true → holds base a ≡ true) where
  abbrev own : List ℕ
  own = filter (λ a. not (holds lower a)) base

  candidates-own : candidates m level.own ≡ map (fold with_atom m) (subsets own)
  candidates-own = ap (candidates m) masked.own ∙ candidates-atoms m own

  -- an answer set's mask is a candidate, and the table has it
  pub move_to : (J : List ℕ) → IsIn J (answer_sets (G ++ fix lower M) bounds base)
      → IsIn (mask_of J) (candidates m level.own) × (has_answer level (mask_of J) ≡ true) × Stands base J (mask_of J)
  move_to J i =
      let at = filter_at (is_bounded_answer_set (G ++ fix lower M) bounds) (subsets base) J i in
      let stands : Stands base J (mask_of J) = stands-mask_of base J at.0 in
      let fixed : is_fixed lower M J ≡ true =
      (and_parts (is_model J (reduct G J)) (is_fixed lower M J)
      (sym (model-fixed G lower M J J) ∙ answer_set-model (G ++ fix lower M) J ((bounded_at (G ++ fix lower M) bounds J at.1).0))).1 in
      let parts = and_parts (list_all (holds J) M) (list_all (λ a. not (holds J a)) (false_atoms lower M)) fixed in
      let kept : Within m (mask_of J) = λ a h. sym (stands.marks a) ∙ all_to (holds J) M parts.0 a (outer.marks a ∙ h) in
      let K : List ℕ = filter (holds J) own in
      let joined : fold with_atom m K ≡ mask_of J =
      same_masks (fold with_atom m K) (mask_of J) (λ a.
      bit-fold K m a
      ∙ (ap (λ t. bit m a || t)
      (holds-filter (holds J) own a ∙ ap (λ t. t && holds J a) (holds-filter (λ b. not (holds lower b)) base a))
      ∙ (from_parts (bit m a) (holds base a) (holds lower a) (holds J a)
      (λ h. stands.marks a ∙ kept a h)
      (λ h. subset-holds base J a stands.inside h)
      (λ h l.
      elim (cases_Bool (holds M a)) [
        | inl held ↦ sym (outer.marks a) ∙ held
        | inr lacks ↦
            absurd (both_ways (holds J a) (not-true (holds J a) (all_to (λ b. not (holds J b)) (false_atoms lower M) parts.1 a
            (holds-filter (λ b. not (holds M b)) lower a ∙ and_from (holds lower a) (not (holds M a)) l (not_from_false (holds M a) lacks)))) h)
      ])
      ∙ stands.marks a))) in
      let member : IsIn (mask_of J) (candidates m level.own) =
      subst (IsIn (mask_of J)) (sym candidates-own)
      (subst (λ k. IsIn k (map (fold with_atom m) (subsets own))) joined
      (map_from (fold with_atom m) (subsets own) K (filter-subset (holds J) own))) in (
        member,
        told G bounds level lower base M m masked outer nested (mask_of J) member
            ∙ bounded-same G lower base M J m (mask_of J) outer stands (subset-ascends base J ascending stands.inside) kept fixed bounds
            ∙ at.1,
        stands,
      )

  -- a candidate that the table has stands for an answer set
  pub move_from : (s : ℕ) → IsIn s (candidates m level.own) → has_answer level s ≡ true
      → (J : List ℕ) × IsIn J (answer_sets (G ++ fix lower M) bounds base) × Stands base J s
  move_from s i answer =
      let w = map_at (fold with_atom m) (subsets own) s (subst (IsIn s) candidates-own i) in
      let bits : (a : ℕ) → bit s a ≡ (bit m a || holds w.0 a) = λ a. ap (λ x. bit x a) w.2 ∙ bit-fold w.0 m a in
      let own_at : (a : ℕ) → holds w.0 a ≡ true → (holds base a ≡ true) × (not (holds lower a) ≡ true) =
      λ a h.
      and_parts (holds base a) (not (holds lower a))
      (sym (holds-filter (λ b. not (holds lower b)) base a) ∙ subset-holds own w.0 a w.1 h) in
      let J : List ℕ = filter (bit s) base in
      let stands : Stands base J s =
      stands-filter base s (λ a h.
      elim (or_cases (bit m a) (holds w.0 a) (sym (bits a) ∙ h)) [
        | inl e ↦ nested a (stands-within lower M m a outer e)
        | inr e ↦ (own_at a e).0
      ]) in
      let kept : Within m s = λ a h. bits a ∙ or_left (bit m a) (holds w.0 a) h in
      let fixed : is_fixed lower M J ≡ true =
      and_from (list_all (holds J) M) (list_all (λ a. not (holds J a)) (false_atoms lower M))
      (all_held (holds J) M (λ a h. stands.marks a ∙ kept a (sym (outer.marks a) ∙ h)))
      (all_held (λ a. not (holds J a)) (false_atoms lower M) (λ a h.
      let out = and_parts (holds lower a) (not (holds M a)) (sym (holds-filter (λ b. not (holds M b)) lower a) ∙ h) in
      not_from_false (holds J a) (false_from_ne_true (holds J a) (λ held.
      elim (or_cases (bit m a) (holds w.0 a) (sym (bits a) ∙ (sym (stands.marks a) ∙ held))) [
        | inl e ↦ both_ways (holds M a) (not-true (holds M a) out.1) (outer.marks a ∙ e)
        | inr e ↦ both_ways (holds lower a) (not-true (holds lower a) ((own_at a e).1)) out.0
      ])))) in (
        J,
        filter_from (is_bounded_answer_set (G ++ fix lower M) bounds) (subsets base) J stands.inside
            (sym (bounded-same G lower base M J m s outer stands (subset-ascends base J ascending stands.inside) kept fixed bounds)
            ∙ (sym (told G bounds level lower base M m masked outer nested s i) ∙ answer)),
        stands,
      )

  -- the table has some candidate where there is a move
  pub some_move : list_any (has_answer level) (candidates m level.own)
      ≡ not (is_empty (answer_sets (G ++ fix lower M) bounds base))
  some_move =
      same_test (list_any (has_answer level) (candidates m level.own))
      (not (is_empty (answer_sets (G ++ fix lower M) bounds base)))
      (λ h.
      let w = any_at (has_answer level) (candidates m level.own) h in
      let move = move_from w.0 w.1 w.2 in
      some_member move.0 (answer_sets (G ++ fix lower M) bounds base) move.1)
      (λ h.
      let w = first_member (answer_sets (G ++ fix lower M) bounds base) h in
      let move = move_to w.0 w.1 in
      any_from (has_answer level) (candidates m level.own) (mask_of w.0) move.0 move.1)

  -- a test of masks and a test of the sets that they stand for
  module _ (V : ℕ → Bool) (v : List ℕ → Bool) (same_value : (J : List ℕ) (s : ℕ) → Stands base J s → V s ≡ v J) where
    pub any_move : list_any (λ s. has_answer level s && V s) (candidates m level.own)
        ≡ list_any v (answer_sets (G ++ fix lower M) bounds base)
    any_move =
        same_test (list_any (λ s. has_answer level s && V s) (candidates m level.own))
        (list_any v (answer_sets (G ++ fix lower M) bounds base))
        (λ h.
        let w = any_at (λ s. has_answer level s && V s) (candidates m level.own) h in
        let parts = and_parts (has_answer level w.0) (V w.0) w.2 in
        let move = move_from w.0 w.1 parts.0 in
        any_from v (answer_sets (G ++ fix lower M) bounds base) move.0 move.1 (sym (same_value move.0 w.0 move.2) ∙ parts.1))
        (λ h.
        let w = any_at v (answer_sets (G ++ fix lower M) bounds base) h in
        let move = move_to w.0 w.1 in
        any_from (λ s. has_answer level s && V s) (candidates m level.own) (mask_of w.0) move.0
        (and_from (has_answer level (mask_of w.0)) (V (mask_of w.0)) move.1
        (same_value w.0 (mask_of w.0) move.2 ∙ w.2)))

    pub all_moves : list_all (λ s. not (has_answer level s) || V s) (candidates m level.own)
        ≡ list_all v (answer_sets (G ++ fix lower M) bounds base)
    all_moves =
        same_test (list_all (λ s. not (has_answer level s) || V s) (candidates m level.own))
        (list_all v (answer_sets (G ++ fix lower M) bounds base))
        (λ h. all_from v (answer_sets (G ++ fix lower M) bounds base) (λ J i.
        let move = move_to J i in
        elim (or_cases (not (has_answer level (mask_of J))) (V (mask_of J))
        (all_at (λ s. not (has_answer level s) || V s) (candidates m level.own) (mask_of J) h move.0)) [
          | inl none ↦ absurd (both_ways (has_answer level (mask_of J)) (not-true (has_answer level (mask_of J)) none) move.1)
          | inr value ↦ sym (same_value J (mask_of J) move.2) ∙ value
        ]))
        (λ h. all_from (λ s. not (has_answer level s) || V s) (candidates m level.own) (λ s i.
        elim (cases_Bool (has_answer level s)) [
          | inl answer ↦
              let move = move_from s i answer in
              or_right (not (has_answer level s)) (V s)
              (same_value move.0 s move.2 ∙ all_at v (answer_sets (G ++ fix lower M) bounds base) move.0 h move.1)
          | inr none ↦ or_left (not (has_answer level s)) (V s) (not_from_false (has_answer level s) none)
        ]))
