-- Constraints that are broken. All definitions are transparent.
use Rattle.std.specs.Prelude.{ℕ, ◌<◌, ◌≡◌, ◌⊎◌, true, false, not, List, [], length, get_or, Option, Some, None}
use Rattle.std.specs.List.{list_all}
use Rattle.asp_defs.specs.declared.ground.GroundRule.{GroundRule}
use Rattle.asp_defs.specs.Truth.{body_true}
use Rattle.asp_eval.specs.declared.broken.Broken.{Broken}

-- the rule at a place
abbrev pub rule_at : List GroundRule → ℕ → GroundRule
rule_at rules place = get_or rules place (record { choice = true; head = []; pos = []; neg = [] })

-- the body of the rule at this place is true
pub record IsBroken (I : List ℕ) (rules : List GroundRule) (place : ℕ) : Type 0 where
  pub inside : place < length rules
  pub broken : body_true I (rule_at rules place) ≡ true

-- no body is true
abbrev pub AreUnbroken : List ℕ → List GroundRule → Type 0
AreUnbroken I rules = list_all (λ r. not (body_true I r)) rules ≡ true

-- of a constraint found before and the rule at a place, if its body is true, one was taken, where there is any
pub record Weighs (I : List ℕ) (rules : List GroundRule) (place : ℕ) (before now : Option Broken) : Type 0 where
  pub one : (b : Broken) → now ≡ Some b → (before ≡ Some b) ⊎ ((b.rule ≡ place) × (body_true I (rule_at rules place) ≡ true))
  pub none : now ≡ None → (before ≡ None) × (body_true I (rule_at rules place) ≡ false)
