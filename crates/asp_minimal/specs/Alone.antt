-- Atoms that are unfounded alone. All definitions are transparent.
use Rattle.std.specs.Prelude.{ℕ, ◌≡◌, Bool, not, ◌&&◌, List, [], ◌∷◌}
use Rattle.std.specs.List.{list_all}
use Rattle.asp_bits.specs.Places.{true_places}
use Rattle.asp_defs.specs.declared.ground.GroundRule.{GroundRule}
use Rattle.asp_defs.specs.Interpretations.{holds}
use Rattle.asp_defs.specs.Truth.{body_true}
use Rattle.asp_defs.specs.Unfounded.{supports, is_unfounded}

-- whether a rule supports the set of one atom, where that stands in its head
abbrev pub supports_where_headed : List ℕ → ℕ → GroundRule → Bool
supports_where_headed I a r =
    body_true I r
    && (list_all (λ b. not (holds (a ∷ []) b)) r.pos && list_all (λ b. not (holds I b && not (holds (a ∷ []) b))) r.head)

-- of the true places just those stay true whose atom a rule doesn't support alone
pub record Clears (I : List ℕ) (r : GroundRule) (old new : List Bool) : Type 0 where
  pub stay : (a : ℕ) → holds (true_places new) a ≡ (holds (true_places old) a && not (supports I (a ∷ []) r))

-- of the true places of a part just those are true whose atoms no rule supports alone
pub record AreAlone (G : List GroundRule) (I : List ℕ) (part alone : List Bool) : Type 0 where
  pub is : (a : ℕ) → holds (true_places alone) a ≡ (holds (true_places part) a && is_unfounded G I (a ∷ []))
