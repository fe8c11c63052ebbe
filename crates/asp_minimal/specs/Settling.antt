-- What founding tells of the sets of a part. All definitions are transparent.
use Rattle.std.specs.Prelude.{ℕ, ◌≡◌, true, false, List}
use Rattle.asp_defs.specs.declared.ground.GroundRule.{GroundRule}
use Rattle.asp_defs.specs.Interpretations.{holds}
use Rattle.asp_defs.specs.Games.{ascends}
use Rattle.asp_defs.specs.Lists.{is_empty}
use Rattle.asp_defs.specs.Unfounded.{is_unfounded}

-- no set of atoms of a part is unfounded in an interpretation, but the empty one
pub record AreFounded (G : List GroundRule) (I K : List ℕ) : Type 0 where
  pub each : (U : List ℕ) (a : ℕ) → ((b : ℕ) → holds U b ≡ true → holds K b ≡ true) → holds U a ≡ true → is_unfounded G I U ≡ false

-- an ascending list of atoms of the part that is not empty and is unfounded
pub record RefutesPart (G : List GroundRule) (I K U : List ℕ) : Type 0 where
  pub some : is_empty U ≡ false
  pub ordered : ascends U ≡ true
  pub inside : (a : ℕ) → holds U a ≡ true → holds K a ≡ true
  pub unfounded : is_unfounded G I U ≡ true
