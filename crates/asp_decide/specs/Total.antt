-- When nothing is left to decide, and what is decided first.
use Rattle.std.specs.Prelude.{◌≡◌, ℕ, ◌+◌, ◌*◌, ◌/◌, ◌%◌, ◌<◌, ◌⊎◌, List}
use Rattle.asp_clauses.specs.declared.trail.Step.{Step}
use Rattle.asp_clauses.specs.Trail.{IsPlaced}

-- each atom has a value
abbrev pub IsTotal : ℕ → List Step → Type 0
IsTotal atoms steps = (atom : ℕ) → atom < atoms → IsPlaced steps (2 * atom + 1) ⊎ IsPlaced steps (2 * atom)

-- the literal makes its atom false, and each lower atom has a value
pub record DeniesFirst (steps : List Step) (literal : ℕ) : Type 0 where
  pub negative : literal % 2 ≡ 0
  pub lower : IsTotal (literal / 2) steps
