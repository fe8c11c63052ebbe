-- Atoms that are chosen so that bodies are false. All definitions are transparent.
use Rattle.std.specs.Prelude.{ℕ, ◌≡◌, ◌⊎◌, Bool, true, List, length}
use Rattle.std.specs.List.{list_any, list_all}
use Rattle.asp_bits.specs.Places.{true_places}
use Rattle.asp_defs.specs.declared.ground.GroundRule.{GroundRule}
use Rattle.asp_defs.specs.Interpretations.{holds}
use Rattle.asp_defs.specs.Games.{rule_atoms}
use Rattle.asp_eval.specs.Covers.{is_covered, AreRuleAtoms}

-- each atom of the first interpretation is one of the second
abbrev pub IsWithin : List ℕ → List ℕ → Type 0
IsWithin I B = (a : ℕ) → holds I a ≡ true → holds B a ≡ true

-- as many values as a count, and those that are true are among the chosen ones
pub record IsPart (chosen : List Bool) (count : ℕ) (values : List Bool) : Type 0 where
  pub as_many : length values ≡ count
  pub within : IsWithin (true_places values) (true_places chosen)

-- further atoms were chosen, if any, so that the body is covered; each is in B and stands in the rule
pub record CoversRule (B I : List ℕ) (r : GroundRule) (before now : List Bool) : Type 0 where
  pub as_many : length now ≡ length before
  pub grows : IsWithin (true_places before) (true_places now)
  pub covered : is_covered B (true_places now) I r ≡ true
  pub added : (a : ℕ) → holds (true_places now) a ≡ true
      → (holds (true_places before) a ≡ true) ⊎ ((holds B a ≡ true) × (holds (rule_atoms r) a ≡ true))

-- the same for several rules
pub record Covers (B I : List ℕ) (rules : List GroundRule) (before now : List Bool) : Type 0 where
  pub as_many : length now ≡ length before
  pub grows : IsWithin (true_places before) (true_places now)
  pub covered : list_all (is_covered B (true_places now) I) rules ≡ true
  pub added : (a : ℕ) → holds (true_places now) a ≡ true
      → (holds (true_places before) a ≡ true)
      ⊎ ((holds B a ≡ true) × (list_any (λ r. holds (rule_atoms r) a) rules ≡ true))

-- further atoms were chosen, if any; each is in B and stands in the rules
pub record Adds (B : List ℕ) (rules : List GroundRule) (before now : List Bool) : Type 0 where
  pub as_many : length now ≡ length before
  pub added : (a : ℕ) → holds (true_places now) a ≡ true
      → (holds (true_places before) a ≡ true)
      ⊎ ((holds B a ≡ true) × (list_any (λ r. holds (rule_atoms r) a) rules ≡ true))

-- each true value is one of the chosen atoms, or is in B and stands in the rules
pub record IsThinned (B : List ℕ) (rules : List GroundRule) (chosen : List Bool) (count : ℕ) (values : List Bool) : Type 0 where
  pub as_many : length values ≡ count
  pub atoms : (a : ℕ) → holds (true_places values) a ≡ true
      → (holds (true_places chosen) a ≡ true)
      ⊎ ((holds B a ≡ true) × (list_any (λ r. holds (rule_atoms r) a) rules ≡ true))

-- chosen atoms cover all bodies, are in B and stand in the rules
pub record IsCovering (B I : List ℕ) (rules : List GroundRule) (count : ℕ) (values : List Bool) : Type 0 where
  pub as_many : length values ≡ count
  pub covered : list_all (is_covered B (true_places values) I) rules ≡ true
  pub atoms : AreRuleAtoms B (true_places values) rules
