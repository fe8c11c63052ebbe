-- The rules that fix an outer move, and free choices on the atoms of the lower base, in the reduct of a level's rules: where
-- an interpretation agrees with the outer move, both leave the same models among its subsets.
use Rattle.std.proofs.Common.{◌≡◌, ℕ, Bool, true, false, not, ◌&&◌, ◌||◌, cond, List, [], ◌∷◌, ◌++◌, map, refl, sym, ap, ◌∙◌, inl, inr}
use Rattle.std.specs.List.{list_all, filter}
use Rattle.std.proofs.lemmas.List.{map-append}
use Rattle.std.proofs.lemmas.List.Elements.{filter-append}
use Rattle.std.proofs.lemmas.List.Folds.{list_all-append}
use Rattle.asp_defs.specs.declared.ground.GroundRule.{GroundRule}
use Rattle.asp_defs.specs.Lists.{IsIn}
use Rattle.asp_defs.specs.Interpretations.{holds, subsets, same, proper_subsets}
use Rattle.asp_defs.specs.Truth.{satisfies, is_model}
use Rattle.asp_defs.specs.Reduct.{stays, positive_part, reduct}
use Rattle.asp_defs.specs.AnswerSets.{is_answer_set}
use Rattle.asp_defs.specs.Values.{fact, denial, fix}
use Rattle.asp_defs.proofs.Lists.{both, and_true, either, or_left, or_right, true_or_false, not_true, not_false, all_at, all_from, filter_at}
use Rattle.asp_defs.proofs.Subsets.{true_is_not_false, holds_at, holds_from, subset-member, subset-holds}
use Rattle.asp_completion.specs.Choices.{free_choice, with_choices}

-- two tests are the same where each follows from the other
pub same_test : (p q : Bool) → (p ≡ true → q ≡ true) → (q ≡ true → p ≡ true) → p ≡ q
same_test true q f g = sym (f refl)
same_test false true f g = g refl
same_test false false f g = refl

-- two tests that agree on all members agree on the list
pub all_same : {A : Type 0} (p q : A → Bool) (xs : List A) → ((x : A) → IsIn x xs → p x ≡ q x)
    → list_all p xs ≡ list_all q xs
all_same p q [] h = refl
all_same p q (y ∷ ys) h =
    ap (λ t. t && list_all p ys) (h y (inl refl)) ∙ ap (λ t. q y && t) (all_same p q ys (λ x i. h x (inr i)))

-- the atoms of a base that are false in a set
abbrev pub false_atoms : List ℕ → List ℕ → List ℕ
false_atoms B M = filter (λ a. not (holds M a)) B

-- whether a set has each atom of an outer move and no other atom of its base
abbrev pub is_fixed : List ℕ → List ℕ → List ℕ → Bool
is_fixed B M K = list_all (holds K) M && list_all (λ a. not (holds K a)) (false_atoms B M)

or_none : (h : Bool) → (h || false) ≡ h
or_none true = refl
or_none false = refl

satisfies-fact : (K : List ℕ) (a : ℕ) → satisfies K (fact a) ≡ holds K a
satisfies-fact K a = or_none (holds K a)

satisfies-denial : (K : List ℕ) (a : ℕ) → satisfies K (denial a) ≡ not (holds K a)
satisfies-denial K a = go (holds K a)
  where
    go : (h : Bool) → (not ((h && true) && true) || false) ≡ not h
    go true = refl
    go false = refl

-- facts and denials stay in each reduct
model-facts : (M J K : List ℕ) → is_model K (reduct (map fact M) J) ≡ list_all (holds K) M
model-facts [] J K = refl
model-facts (a ∷ M) J K =
    ap (λ t. t && is_model K (reduct (map fact M) J)) (satisfies-fact K a) ∙ ap (λ t. holds K a && t) (model-facts M J K)

model-denials : (D J K : List ℕ) → is_model K (reduct (map denial D) J) ≡ list_all (λ a. not (holds K a)) D
model-denials [] J K = refl
model-denials (a ∷ D) J K =
    ap (λ t. t && is_model K (reduct (map denial D) J)) (satisfies-denial K a)
    ∙ ap (λ t. not (holds K a) && t) (model-denials D J K)

-- a free choice stays where its atom is true, as a fact
model-choices : (F J K : List ℕ)
    → is_model K (reduct (map free_choice F) J) ≡ list_all (λ a. not (holds J a) || holds K a) F
model-choices [] J K = refl
model-choices (a ∷ F) J K = go (holds J a) ∙ ap (λ t. (not (holds J a) || holds K a) && t) (model-choices F J K)
  where
    rest : List GroundRule
    rest = filter (stays J) (map free_choice F)

    go : (h : Bool) → list_all (satisfies K) (map positive_part (cond (h || false) (free_choice a ∷ filter (stays J) (map free_choice F)) (filter (stays J) (map free_choice F))))
        ≡ ((not h || holds K a) && list_all (satisfies K) (map positive_part (filter (stays J) (map free_choice F))))
    go true = ap (λ t. t && list_all (satisfies K) (map positive_part (filter (stays J) (map free_choice F)))) (satisfies-fact K a)
    go false = refl

-- the reduct of two lists of rules, and its models
reduct-append : (G H : List GroundRule) (J : List ℕ) → reduct (G ++ H) J ≡ reduct G J ++ reduct H J
reduct-append G H J =
    ap (map positive_part) (filter-append (stays J) G H) ∙ map-append positive_part (filter (stays J) G) (filter (stays J) H)

model-append : (G H : List GroundRule) (J K : List ℕ)
    → is_model K (reduct (G ++ H) J) ≡ (is_model K (reduct G J) && is_model K (reduct H J))
model-append G H J K =
    ap (is_model K) (reduct-append G H J) ∙ list_all-append (satisfies K) (reduct G J) (reduct H J)

-- a set is a model of the reduct with an outer move fixed where it is one of the reduct of the rules and has the move
pub model-fixed : (G : List GroundRule) (B M J K : List ℕ)
    → is_model K (reduct (G ++ fix B M) J) ≡ (is_model K (reduct G J) && is_fixed B M K)
model-fixed G B M J K =
    model-append G (fix B M) J K
    ∙ ap (λ t. is_model K (reduct G J) && t)
    (model-append (map fact M) (map denial (false_atoms B M)) J K
    ∙ ap (λ t. t && is_model K (reduct (map denial (false_atoms B M)) J)) (model-facts M J K)
    ∙ ap (λ t. list_all (holds K) M && t) (model-denials (false_atoms B M) J K))

-- the same under free choices
pub model-chosen : (G : List GroundRule) (F J K : List ℕ)
    → is_model K (reduct (with_choices G F) J) ≡ (is_model K (reduct G J) && list_all (λ a. not (holds J a) || holds K a) F)
model-chosen G F J K =
    model-append G (map free_choice F) J K ∙ ap (λ t. is_model K (reduct G J) && t) (model-choices F J K)

-- two interpretations have the same atoms of a base
pub record AgreesOn (B M N : List ℕ) : Type 0 where
  pub same_atoms : (a : ℕ) → holds B a ≡ true → holds N a ≡ holds M a

-- an outer move M of the base L, and an interpretation J that agrees with it there
module _ (G : List GroundRule) (L M J : List ℕ) (outer : IsIn M (subsets L)) (agrees : AgreesOn L M J) where
  -- a subset of J has the outer move exactly where it keeps the atoms of L that J has
  fixed_kept : (K : List ℕ) → ((a : ℕ) → holds K a ≡ true → holds J a ≡ true)
      → is_fixed L M K ≡ list_all (λ a. not (holds J a) || holds K a) L
  fixed_kept K inside =
      same_test (is_fixed L M K) (list_all (λ a. not (holds J a) || holds K a) L)
      (λ h.
      let parts = both (list_all (holds K) M) (list_all (λ a. not (holds K a)) (false_atoms L M)) h in
      all_from (λ a. not (holds J a) || holds K a) L (λ a i.
      elim (true_or_false (holds J a)) [
        | inl held ↦
            let outer_too : holds M a ≡ true = sym (agrees.same_atoms a (holds_from L a i)) ∙ held in
            or_right (not (holds J a)) (holds K a) (all_at (holds K) M a parts.0 (holds_at M a outer_too))
        | inr lacks ↦ or_left (not (holds J a)) (holds K a) (not_false (holds J a) lacks)
      ]))
      (λ h.
      and_true (list_all (holds K) M) (list_all (λ a. not (holds K a)) (false_atoms L M))
      (all_from (holds K) M (λ a i.
      let low : IsIn a L = subset-member L M a outer i in
      let held : holds J a ≡ true = agrees.same_atoms a (holds_from L a low) ∙ holds_from M a i in
      elim (either (not (holds J a)) (holds K a) (all_at (λ b. not (holds J b) || holds K b) L a h low)) [
        | inl lacks ↦ absurd (true_is_not_false (holds J a) held (not_true (holds J a) lacks))
        | inr kept ↦ kept
      ]))
      (all_from (λ a. not (holds K a)) (false_atoms L M) (λ a i.
      let parts = filter_at (λ b. not (holds M b)) L a i in
      let lacks : holds J a ≡ false = agrees.same_atoms a (holds_from L a parts.0) ∙ not_true (holds M a) parts.1 in
      elim (true_or_false (holds K a)) [
        | inl held ↦ absurd (true_is_not_false (holds J a) (inside a held) lacks)
        | inr out ↦ not_false (holds K a) out
      ])))

  models_alike : (K : List ℕ) → ((a : ℕ) → holds K a ≡ true → holds J a ≡ true)
      → is_model K (reduct (G ++ fix L M) J) ≡ is_model K (reduct (with_choices G L) J)
  models_alike K inside =
      model-fixed G L M J K
      ∙ (ap (λ t. is_model K (reduct G J) && t) (fixed_kept K inside) ∙ sym (model-chosen G L J K))

  -- J is an answer set with the outer move fixed exactly where it is one with free choices on the lower base
  pub fixed_or_free : is_answer_set (G ++ fix L M) J ≡ is_answer_set (with_choices G L) J
  fixed_or_free =
      let Fixed = reduct (G ++ fix L M) J in
      let Free = reduct (with_choices G L) J in
      ap (λ t. t && list_all (λ K. not (is_model K Fixed)) (proper_subsets J)) (models_alike J (λ a h. h))
      ∙ ap (λ t. is_model J Free && t)
      (all_same (λ K. not (is_model K Fixed)) (λ K. not (is_model K Free)) (proper_subsets J) (λ K i.
      ap not (models_alike K (λ a h. subset-holds J K a ((filter_at (λ I. not (same I J)) (subsets J) K i).0) h))))
