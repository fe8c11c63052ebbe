-- What marking atoms achieves. All definitions are transparent.
use Rattle.std.specs.Prelude.{ℕ, ◌≡◌, ◌⊎◌, Bool, true, false, List, [], ◌∷◌, length, Option, Some, None}
use Rattle.std.specs.List.{list_any, list_all}
use Rattle.asp_bits.specs.Places.{true_places}
use Rattle.asp_defs.specs.declared.ground.GroundRule.{GroundRule}
use Rattle.asp_defs.specs.declared.ground.Bound.{Bound}
use Rattle.asp_defs.specs.declared.ground.Counted.{Counted}
use Rattle.asp_defs.specs.declared.ground.Lit.{Lit}
use Rattle.asp_defs.specs.Lists.{IsIn}
use Rattle.asp_defs.specs.Interpretations.{holds}
use Rattle.asp_defs.specs.Truth.{literals_true, satisfies}
use Rattle.asp_defs.specs.Bounds.{term_atoms, bound_atoms}
use Rattle.asp_defs.specs.Games.{rule_atoms}
use Rattle.asp_explain.specs.Resting.{is_known, are_known, is_safe, is_kept, is_settled}

-- further atoms were marked, if any, so that each item passes a test; each atom is in B and is one of an item's
pub record Achieves {A : Type 0} (test : List ℕ → A → Bool) (atoms : A → List ℕ) (B : List ℕ) (items : List A) (before now : List Bool) : Type 0 where
  pub as_many : length now ≡ length before
  pub grows : (a : ℕ) → holds (true_places before) a ≡ true → holds (true_places now) a ≡ true
  pub added : (a : ℕ) → holds (true_places now) a ≡ true
      → (holds (true_places before) a ≡ true) ⊎ ((holds B a ≡ true) × (list_any (λ x. holds (atoms x) a) items ≡ true))
  pub passes : list_all (test (true_places now)) items ≡ true

-- what is known of atoms, literals, counted terms, rules and bounds
abbrev pub MarksAtoms : List ℕ → List ℕ → List Bool → List Bool → Type 0
MarksAtoms B = Achieves (is_known B) (λ a. a ∷ []) B

abbrev pub MarksLiterals : List ℕ → List Lit → List Bool → List Bool → Type 0
MarksLiterals B = Achieves (λ C l. is_known B C l.atom) (λ l. l.atom ∷ []) B

abbrev pub MarksTerms : List ℕ → List Counted → List Bool → List Bool → Type 0
MarksTerms B = Achieves (λ C c. are_known B C (term_atoms c)) term_atoms B

abbrev pub SettlesRules : List ℕ → List ℕ → List ℕ → List GroundRule → List Bool → List Bool → Type 0
SettlesRules B D N = Achieves (λ C r. is_settled B D C N r) rule_atoms B

abbrev pub SatisfiesRules : List ℕ → List ℕ → List GroundRule → List Bool → List Bool → Type 0
SatisfiesRules B N = Achieves (λ C r. is_safe B C N r) rule_atoms B

-- some of the atoms, and some atoms of the rules, were marked
abbrev pub MarksFew : List ℕ → List ℕ → List Bool → List Bool → Type 0
MarksFew B = Achieves (λ C a. true) (λ a. a ∷ []) B

abbrev pub MarksRules : List ℕ → List GroundRule → List Bool → List Bool → Type 0
MarksRules B = Achieves (λ C r. true) rule_atoms B

abbrev pub KeepsBounds : List ℕ → List ℕ → List Bound → List Bool → List Bool → Type 0
KeepsBounds B N = Achieves (λ C b. is_kept B C N b) bound_atoms B

-- the atom of a literal of a body that is false, where there is one
pub record IsFalseAtom (N pos neg : List ℕ) (found : Option ℕ) : Type 0 where
  pub one : (a : ℕ) → found ≡ Some a → (IsIn a pos × (holds N a ≡ false)) ⊎ (IsIn a neg × (holds N a ≡ true))
  pub none : found ≡ None → literals_true N pos neg ≡ true

-- an atom that satisfies a rule, where one does: a true one of the head, or that of a false literal of the body
pub record IsWitness (N : List ℕ) (r : GroundRule) (found : Option ℕ) : Type 0 where
  pub one : (a : ℕ) → found ≡ Some a
      → (IsIn a r.head × (holds N a ≡ true)) ⊎ ((IsIn a r.pos × (holds N a ≡ false)) ⊎ (IsIn a r.neg × (holds N a ≡ true)))
  pub none : found ≡ None → satisfies N r ≡ r.choice
