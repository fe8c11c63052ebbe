-- Which atom is taken of a list. All definitions are transparent.
use Rattle.std.specs.Prelude.{ℕ, ◌≡◌, ◌⊎◌, Bool, not, List, Option, Some, None}
use Rattle.asp_defs.specs.Lists.{IsIn}
use Rattle.asp_defs.specs.Interpretations.{holds}

-- of an earlier choice and the atoms of this truth one was taken, where there is any
pub record IsTaken (I : List ℕ) (truth : Bool) (atoms : List ℕ) (before now : Option ℕ) : Type 0 where
  pub one : (a : ℕ) → now ≡ Some a → (before ≡ Some a) ⊎ (IsIn a atoms × (holds I a ≡ truth))
  pub none : now ≡ None → (before ≡ None) × ((a : ℕ) → IsIn a atoms → holds I a ≡ not truth)
