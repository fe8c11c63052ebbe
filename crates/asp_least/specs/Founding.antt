-- Atoms of an interpretation that rules found one after another. All definitions are transparent.
use Rattle.std.specs.Prelude.{ℕ, ◌≡◌, Bool, true, false, List, length}
use Rattle.asp_bits.specs.Places.{true_places}
use Rattle.asp_defs.specs.declared.ground.GroundRule.{GroundRule}
use Rattle.asp_defs.specs.Lists.{IsIn}
use Rattle.asp_defs.specs.Interpretations.{holds}
use Rattle.asp_defs.specs.Truth.{body_true}
use Rattle.asp_defs.specs.Unfounded.{is_unfounded}

-- an atom is the only true one of some
pub record IsOnlyTrue (I atoms : List ℕ) (a : ℕ) : Type 0 where
  pub member : IsIn a atoms
  pub inside : holds I a ≡ true
  pub alone : (b : ℕ) → IsIn b atoms → holds I b ≡ true → b ≡ a

-- an atom is the only true head atom of a rule with a true body, and it is left
pub record IsLeftHead (I L : List ℕ) (r : GroundRule) (a : ℕ) : Type 0 where
  pub body : body_true I r ≡ true
  pub only : IsOnlyTrue I r.head a
  pub left_one : holds L a ≡ true

-- a rule founds an atom that is left: of its positive body none is left, and the atom is its only true head atom
pub record Founds (I L : List ℕ) (r : GroundRule) (a : ℕ) : Type 0 where
  pub head : IsLeftHead I L r a
  pub apart : (b : ℕ) → IsIn b r.pos → holds L b ≡ false

-- atoms of a part are left, and no set of atoms of the part that has another one is unfounded
pub record AreLeft (G : List GroundRule) (I : List ℕ) (part left : List Bool) : Type 0 where
  pub as_many : length left ≡ length part
  pub inside : (a : ℕ) → holds (true_places left) a ≡ true → holds (true_places part) a ≡ true
  pub founded : (U : List ℕ) → ((b : ℕ) → holds U b ≡ true → holds (true_places part) b ≡ true)
      → (a : ℕ) → holds U a ≡ true → holds (true_places left) a ≡ false → is_unfounded G I U ≡ false

-- rules founded further atoms, if any
pub record FoundsMore (I : List ℕ) (rules : List GroundRule) (before now : List Bool) : Type 0 where
  pub as_many : length now ≡ length before
  pub keeps : (G : List GroundRule) (part : List Bool) → ((r : GroundRule) → IsIn r rules → IsIn r G)
      → AreLeft G I part before → AreLeft G I part now
