-- Sets that are moves. All definitions are transparent.
use Rattle.std.specs.Prelude.{ℕ, ◌≡◌, true, false, List, ◌∷◌}
use Rattle.asp_defs.specs.declared.ground.GroundRule.{GroundRule}
use Rattle.asp_defs.specs.Lists.{IsIn}
use Rattle.asp_defs.specs.Interpretations.{holds, subsets}
use Rattle.asp_defs.specs.Unfounded.{supports}

-- a rule that supports a set of atoms
pub record Support (G : List GroundRule) (N U : List ℕ) : Type 0 where
  pub rule : GroundRule
  pub member : IsIn rule G
  pub supports_it : supports N U rule ≡ true

-- each set of atoms of N that are none of B is supported
abbrev pub AreFounded : List GroundRule → List ℕ → List ℕ → Type 0
AreFounded G B N =
    (u : ℕ) (U : List ℕ) → IsIn (u ∷ U) (subsets N) → ((b : ℕ) → IsIn b (u ∷ U) → holds B b ≡ false) → Support G N (u ∷ U)

-- two interpretations agree on these atoms
abbrev pub AgreeOn : List ℕ → List ℕ → List ℕ → Type 0
AgreeOn atoms M N = (a : ℕ) → IsIn a atoms → holds N a ≡ holds M a
