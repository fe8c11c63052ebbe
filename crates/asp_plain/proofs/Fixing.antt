-- The rules that fix an outer move, in the reduct of a level's rules.
use Rattle.std.proofs.Common.{◌≡◌, ℕ, Bool, true, false, not, ◌&&◌, ◌||◌, List, [], ◌∷◌, ◌++◌, map, refl, ap, ◌∙◌}
use Rattle.std.specs.List.{list_all, filter}
use Rattle.std.proofs.lemmas.List.{map-append}
use Rattle.std.proofs.lemmas.List.Elements.{filter-append}
use Rattle.std.proofs.lemmas.List.Folds.{list_all-append}
use Rattle.asp_defs.specs.declared.ground.GroundRule.{GroundRule}
use Rattle.asp_defs.specs.Interpretations.{holds}
use Rattle.asp_defs.specs.Truth.{satisfies, is_model}
use Rattle.asp_defs.specs.Reduct.{stays, positive_part, reduct}
use Rattle.asp_defs.specs.Values.{fact, denial, fix}

-- the atoms of a base that are false in a set
abbrev pub false_atoms : List ℕ → List ℕ → List ℕ
false_atoms B M = filter (λ a. not (holds M a)) B

-- whether a set has each atom of an outer move and no other atom of its base
abbrev pub is_fixed : List ℕ → List ℕ → List ℕ → Bool
is_fixed B M K = list_all (holds K) M && list_all (λ a. not (holds K a)) (false_atoms B M)

satisfies-fact : (K : List ℕ) (a : ℕ) → satisfies K (fact a) ≡ holds K a
satisfies-fact K a = go (holds K a)
  where
    go : (h : Bool) → (h || false) ≡ h
    go true = refl
    go false = refl

satisfies-denial : (K : List ℕ) (a : ℕ) → satisfies K (denial a) ≡ not (holds K a)
satisfies-denial K a = go (holds K a)
  where
    go : (h : Bool) → (not ((h && true) && true) || false) ≡ not h
    go true = refl
    go false = refl

-- facts and denials stay in each reduct
model-facts : (M J K : List ℕ) → is_model K (reduct (map fact M) J) ≡ list_all (holds K) M
model-facts [] J K = refl
model-facts (a ∷ M) J K =
    ap (λ t. t && is_model K (reduct (map fact M) J)) (satisfies-fact K a) ∙ ap (λ t. holds K a && t) (model-facts M J K)

model-denials : (D J K : List ℕ) → is_model K (reduct (map denial D) J) ≡ list_all (λ a. not (holds K a)) D
model-denials [] J K = refl
model-denials (a ∷ D) J K =
    ap (λ t. t && is_model K (reduct (map denial D) J)) (satisfies-denial K a)
    ∙ ap (λ t. not (holds K a) && t) (model-denials D J K)

-- the reduct of two lists of rules, and its models
reduct-append : (G H : List GroundRule) (J : List ℕ) → reduct (G ++ H) J ≡ reduct G J ++ reduct H J
reduct-append G H J =
    ap (map positive_part) (filter-append (stays J) G H) ∙ map-append positive_part (filter (stays J) G) (filter (stays J) H)

model-append : (G H : List GroundRule) (J K : List ℕ)
    → is_model K (reduct (G ++ H) J) ≡ (is_model K (reduct G J) && is_model K (reduct H J))
model-append G H J K =
    ap (is_model K) (reduct-append G H J) ∙ list_all-append (satisfies K) (reduct G J) (reduct H J)

-- a set is a model of the reduct with an outer move fixed where it is one of the reduct of the rules and has the move
pub model-fixed : (G : List GroundRule) (B M J K : List ℕ)
    → is_model K (reduct (G ++ fix B M) J) ≡ (is_model K (reduct G J) && is_fixed B M K)
model-fixed G B M J K =
    model-append G (fix B M) J K
    ∙ ap (λ t. is_model K (reduct G J) && t)
    (model-append (map fact M) (map denial (false_atoms B M)) J K
    ∙ ap (λ t. t && is_model K (reduct (map denial (false_atoms B M)) J)) (model-facts M J K)
    ∙ ap (λ t. list_all (holds K) M && t) (model-denials (false_atoms B M) J K))
