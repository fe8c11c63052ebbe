-- The moves of a level: what each of them is, and what makes an interpretation one.
use Rattle.std.proofs.Common.{◌≡◌, ℕ, ◌-◌, true, not, nat_lt, List, [], ◌∷◌, ◌++◌, refl, sym, ap, ◌∙◌, inl, inr}
use Rattle.std.specs.List.{list_all}
use Rattle.std.proofs.lemmas.Bool.{lt-ltb}
use Rattle.std.proofs.lemmas.List.Folds.{list_all-append}
use Rattle.asp_defs.specs.declared.ground.Game.{Game}
use Rattle.asp_defs.specs.Lists.{IsIn}
use Rattle.asp_defs.specs.Interpretations.{holds, subsets}
use Rattle.asp_defs.specs.Truth.{satisfies, is_model}
use Rattle.asp_defs.specs.Reduct.{reduct}
use Rattle.asp_defs.specs.AnswerSets.{is_answer_set, is_bounded_answer_set}
use Rattle.asp_defs.specs.Bounds.{meets_all}
use Rattle.asp_defs.specs.Games.{ascends, base, rules_of, bounds_of}
use Rattle.asp_defs.specs.Values.{fix, moves}
use Rattle.asp_defs.proofs.Lists.{both, and_true, true_or_false, not_true, all_at, filter_at, filter_from}
use Rattle.asp_defs.proofs.Subsets.{holds_at, subset_at, subset-member, ascends-tail, ascends-member}
use Rattle.asp_defs.proofs.AnswerSetLaws.{answer_set-satisfies, answer_set-model}
use Rattle.asp_completion.specs.Choices.{with_choices}
use Rattle.asp_completion.proofs.Fixing.{AgreesOn, is_fixed, false_atoms, model-fixed, fixed_or_free}

-- ---- ascending lists

pub ascends-cons : (b : ℕ) (K : List ℕ) → ascends K ≡ true → ((x : ℕ) → IsIn x K → nat_lt b x ≡ true) → ascends (b ∷ K) ≡ true
ascends-cons b [] up below = refl
ascends-cons b (c ∷ K) up below = and_true (nat_lt b c) (ascends (c ∷ K)) (below c (inl refl)) up

-- the subsets of an ascending base ascend
pub subset-ascends : (B J : List ℕ) → ascends B ≡ true → IsIn J (subsets B) → ascends J ≡ true
subset-ascends [] J up (inl e) = ap ascends e
subset-ascends [] J up (inr i) = absurd i
subset-ascends (b ∷ B) J up i = elim (subset_at b B J i) [
  | inl inside ↦ subset-ascends B J (ascends-tail b B up) inside
  | inr begins ↦
      ap ascends begins.2
      ∙ ascends-cons b begins.0 (subset-ascends B begins.0 (ascends-tail b B up) begins.1)
      (λ x member. lt-ltb b x (ascends-member b B x up (subset-member B begins.0 x begins.1 member)))
]

-- a list without members is empty
pub no_members : {A : Type 0} (xs : List A) → ((x : A) → IsIn x xs → ⊥) → xs ≡ []
no_members [] h = refl
no_members (x ∷ xs) h = absurd (h x (inl refl))

-- ---- moves

-- what a move after an outer move is
pub record IsMove (g : Game) (i : ℕ) (M N : List ℕ) : Type 0 where
  pub inside : IsIn N (subsets (base g i))
  pub model : is_model N (rules_of g i) ≡ true
  pub agrees : AgreesOn (base g (i - 1)) M N
  pub chosen : is_answer_set (with_choices (rules_of g i) (base g (i - 1))) N ≡ true
  pub met : meets_all N (bounds_of g i) ≡ true

agrees_where_fixed : (L M N : List ℕ) → is_fixed L M N ≡ true → AgreesOn L M N
agrees_where_fixed L M N fixed =
    let parts = both (list_all (holds N) M) (list_all (λ a. not (holds N a)) (false_atoms L M)) fixed in
    record {
      same_atoms = λ a low.
          elim (true_or_false (holds M a)) [
            | inl held ↦ all_at (holds N) M a parts.0 (holds_at M a held) ∙ sym held
            | inr lacks ↦
                not_true (holds N a)
                (all_at (λ b. not (holds N b)) (false_atoms L M) a parts.1
                (filter_from (λ b. not (holds M b)) L a (holds_at L a low) (ap not lacks)))
                ∙ sym lacks
          ];
    }

pub move_at : (g : Game) (i : ℕ) (M N : List ℕ) → IsIn M (subsets (base g (i - 1))) → IsIn N (moves g i M) → IsMove g i M N
move_at g i M N outer member =
    let G = rules_of g i in
    let L = base g (i - 1) in
    let found = filter_at (is_bounded_answer_set (G ++ fix L M) (bounds_of g i)) (subsets (base g i)) N member in
    let parts = both (is_answer_set (G ++ fix L M) N) (meets_all N (bounds_of g i)) found.1 in
    let fixed : is_fixed L M N ≡ true =
    (both (is_model N (reduct G N)) (is_fixed L M N)
    (sym (model-fixed G L M N N) ∙ answer_set-model (G ++ fix L M) N parts.0)).1 in
    let agrees : AgreesOn L M N = agrees_where_fixed L M N fixed in
    record {
      inside = found.0;
      model = (both (is_model N G) (is_model N (fix L M))
          (sym (list_all-append (satisfies N) G (fix L M)) ∙ answer_set-satisfies (G ++ fix L M) N parts.0)).0;
      agrees = agrees;
      chosen = sym (fixed_or_free G L M N outer agrees) ∙ parts.0;
      met = parts.1;
    }

pub move_from : (g : Game) (i : ℕ) (M N : List ℕ) → IsIn M (subsets (base g (i - 1))) → IsIn N (subsets (base g i))
    → AgreesOn (base g (i - 1)) M N → is_answer_set (with_choices (rules_of g i) (base g (i - 1))) N ≡ true
    → meets_all N (bounds_of g i) ≡ true → IsIn N (moves g i M)
move_from g i M N outer inside agrees chosen met =
    let G = rules_of g i in
    let L = base g (i - 1) in
    filter_from (is_bounded_answer_set (G ++ fix L M) (bounds_of g i)) (subsets (base g i)) N inside
    (and_true (is_answer_set (G ++ fix L M) N) (meets_all N (bounds_of g i)) (fixed_or_free G L M N outer agrees ∙ chosen) met)
