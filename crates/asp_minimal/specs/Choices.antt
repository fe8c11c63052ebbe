-- Rules with a free choice on some atoms, and what shows that an interpretation is no answer set of them. All definitions
-- are transparent.
use Rattle.std.specs.Prelude.{ℕ, ◌≡◌, Bool, true, false, not, List, [], ◌∷◌, ◌++◌, map}
use Rattle.std.specs.List.{list_all, filter}
use Rattle.asp_defs.specs.declared.ground.GroundRule.{GroundRule}
use Rattle.asp_defs.specs.Interpretations.{holds}
use Rattle.asp_defs.specs.Games.{ascends, within}
use Rattle.asp_defs.specs.Lists.{is_empty}
use Rattle.asp_defs.specs.Unfounded.{is_unfounded}

-- the choice that leaves an atom free
abbrev pub free_choice : ℕ → GroundRule
free_choice a = record { choice = true; head = a ∷ []; pos = []; neg = [] }

-- the rules with a free choice on each of these atoms
abbrev pub with_choices : List GroundRule → List ℕ → List GroundRule
with_choices G F = G ++ map free_choice F

-- the atoms of an interpretation that aren't free
abbrev pub bound_atoms : List ℕ → List ℕ → List ℕ
bound_atoms F I = filter (λ a. not (holds F a)) I

-- whether none of the atoms is one of the others
abbrev pub is_apart : List ℕ → List ℕ → Bool
is_apart U F = list_all (λ a. not (holds F a)) U

-- an ascending list of atoms of the interpretation that is not empty, has no free atom, and is unfounded in it
pub record Refutes (G : List GroundRule) (F I U : List ℕ) : Type 0 where
  pub some : is_empty U ≡ false
  pub ordered : ascends U ≡ true
  pub inside : within U I ≡ true
  pub bound : is_apart U F ≡ true
  pub unfounded : is_unfounded G I U ≡ true
