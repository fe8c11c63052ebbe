-- Where a constant stands or belongs among ascending ones (of this project). All definitions are transparent.
use Rattle.std.specs.Prelude.{ℕ, ℤ, ◌≡◌, ◌<◌, ◌≤◌, List, length, get_or, Result, Ok, Err}
use Rattle.std.specs.declared.cmp.Ordering.TheVariants.{Less, Greater}
use Rattle.asp_defs.specs.declared.ground.Const.{Const}
use Rattle.asp_defs.specs.declared.ground.Const.TheVariants as const
use Rattle.asp_defs.specs.Lists.{IsIn}
use Rattle.asp_defs.specs.Constants.{const_cmp}

-- a constant stands at a place
pub record IsAt (constants : List Const) (c : Const) (place : ℕ) : Type 0 where
  pub inside : place < length constants
  pub is : (d : Const) → get_or constants place d ≡ c

abbrev pub IsIntegerAt : List Const → ℤ → ℕ → Type 0
IsIntegerAt constants x place = IsAt constants (const.Int x) place

-- constants have all of some others
abbrev pub HasAll : List Const → List Const → Type 0
HasAll constants others = (c : Const) → IsIn c others → IsIn c constants

-- the constants before a place are below a constant, and those from there on are above it
pub record Gap (constants : List Const) (c : Const) (place : ℕ) : Type 0 where
  pub within : place ≤ length constants
  pub below : (k : ℕ) (d : Const) → k < place → const_cmp c (get_or constants k d) ≡ Greater
  pub above : (k : ℕ) (d : Const) → place ≤ k → k < length constants → const_cmp c (get_or constants k d) ≡ Less

-- the place at which a constant stands, or else the one at which it belongs
abbrev pub IsPlace : List Const → Const → Result ℕ ℕ → Type 0
IsPlace constants c (Ok place) = IsAt constants c place
IsPlace constants c (Err place) = Gap constants c place
