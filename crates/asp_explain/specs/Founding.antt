-- Atoms of a move that are founded one after another. All definitions are transparent.
use Rattle.std.specs.Prelude.{ℕ, ◌≡◌, ◌⊎◌, Bool, true, false, List, [], ◌∷◌, length}
use Rattle.std.specs.List.{list_any}
use Rattle.asp_bits.specs.Places.{true_places}
use Rattle.asp_defs.specs.declared.ground.GroundRule.{GroundRule}
use Rattle.asp_defs.specs.Lists.{IsIn}
use Rattle.asp_defs.specs.Interpretations.{holds, subsets}
use Rattle.asp_defs.specs.Truth.{body_true}
use Rattle.asp_defs.specs.Entries.{stands_in_rules}
use Rattle.asp_explain.specs.Resting.{Supporter}

-- each set of a level's own atoms in a move N, with one of the atoms D, has a supporter whose atoms are known
abbrev pub AreFounded : List GroundRule → List ℕ → List ℕ → List ℕ → List ℕ → Type 0
AreFounded G B C N D =
    (u : ℕ) (U : List ℕ) → IsIn (u ∷ U) (subsets N) → ((b : ℕ) → IsIn b (u ∷ U) → holds B b ≡ false)
    → list_any (holds D) (u ∷ U) ≡ true → Supporter G B C N (u ∷ U)

-- an atom is the only true head atom of a rule, and none of D
pub record IsOnlyHead (N D : List ℕ) (r : GroundRule) (atom : ℕ) : Type 0 where
  pub head : IsIn atom r.head
  pub inside : holds N atom ≡ true
  pub new : holds D atom ≡ false
  pub alone : (b : ℕ) → IsIn b r.head → holds N b ≡ true → holds (atom ∷ []) b ≡ true

-- a rule founds an atom on the atoms D: its body is true, all its positive atoms are among D, and the atom is its only true head
-- atom, and none of D
pub record Founds (N D : List ℕ) (r : GroundRule) (atom : ℕ) : Type 0 where
  pub body : body_true N r ≡ true
  pub pos : (b : ℕ) → IsIn b r.pos → holds D b ≡ true
  pub only : IsOnlyHead N D r atom

-- further atoms were marked, if any; each is in B and stands in the rules
pub record MarksSome (B : List ℕ) (rules : List GroundRule) (before now : List Bool) : Type 0 where
  pub as_many : length now ≡ length before
  pub grows : (a : ℕ) → holds (true_places before) a ≡ true → holds (true_places now) a ≡ true
  pub added : (a : ℕ) → holds (true_places now) a ≡ true
      → (holds (true_places before) a ≡ true) ⊎ ((holds B a ≡ true) × (stands_in_rules a rules ≡ true))

-- further atoms were founded, if any, by rules whose outer atoms were marked
pub record FoundsMore (B N : List ℕ) (rules : List GroundRule) (marks founded marks' founded' : List Bool) : Type 0 where
  pub marks_some : MarksSome B rules marks marks'
  pub as_many : length founded' ≡ length founded
  pub keeps : (G : List GroundRule) → ((r : GroundRule) → IsIn r rules → IsIn r G)
      → AreFounded G B (true_places marks) N (true_places founded) → AreFounded G B (true_places marks') N (true_places founded')
