-- Clauses that an unfounded set gives. All definitions are transparent.
use Rattle.std.specs.Prelude.{ℕ, ◌≡◌, true, false, Bool, not, ◌&&◌, ◌||◌, List, ◌∷◌, ◌++◌}
use Rattle.std.specs.List.{list_any, list_all}
use Rattle.asp_defs.specs.declared.ground.GroundRule.{GroundRule}
use Rattle.asp_defs.specs.declared.ground.Lit.{Lit}
use Rattle.asp_defs.specs.Lists.{IsIn}
use Rattle.asp_defs.specs.Interpretations.{holds}
use Rattle.asp_defs.specs.Truth.{body_true}
use Rattle.asp_defs.specs.AnswerSets.{is_answer_set}
use Rattle.asp_defs.specs.Entries.{lit_true}
use Rattle.asp_defs.specs.Games.{rule_atoms}
use Rattle.asp_defs.specs.Unfounded.{supports, is_unfounded}
use Rattle.asp_minimal.specs.Choices.{with_choices, is_apart}

-- whether all literals of a clause are false
abbrev pub is_false : List ℕ → List Lit → Bool
is_false I clause = list_all (λ l. not (lit_true I l)) clause

-- whether one of them is true
abbrev pub is_true : List ℕ → List Lit → Bool
is_true I clause = list_any (lit_true I) clause

-- whether an atom stands in one of the rules
abbrev pub stands_in : List GroundRule → ℕ → Bool
stands_in G a = list_any (λ r. holds (rule_atoms r) a) G

-- the literal that an atom is false
abbrev pub denied : ℕ → Lit
denied a = record { atom = a; positive = false }

-- a clause that is false in an interpretation and true in every answer set, whatever atoms outside the unfounded set are
-- free; each of its atoms is one of the set or stands in a rule
pub record IsNogood (G : List GroundRule) (I U : List ℕ) (clause : List Lit) : Type 0 where
  pub false_here : is_false I clause ≡ true
  pub true_there : (F N : List ℕ) → is_apart U F ≡ true → is_answer_set (with_choices G F) N ≡ true → is_true N clause ≡ true
  pub atoms : list_all (λ l. holds U l.atom || stands_in G l.atom) clause ≡ true

-- a literal that is false in an interpretation, of an atom of the rule, and wherever it is false the rule doesn't support the set
pub record IsReason (I U : List ℕ) (r : GroundRule) (l : Lit) : Type 0 where
  pub false_here : lit_true I l ≡ false
  pub atom : holds (rule_atoms r) l.atom ≡ true
  pub blocks : (N : List ℕ) → lit_true N l ≡ false → supports N U r ≡ false

-- nothing but the set's own atoms keeps the rule from supporting it
pub record IsOpen (I U : List ℕ) (r : GroundRule) : Type 0 where
  pub body : body_true I r ≡ true
  pub closed : list_all (λ a. not (holds I a && not (holds U a))) r.head ≡ true

-- whether each literal of the body whose atom is an outer one is true
abbrev pub is_outer_true : List ℕ → List ℕ → GroundRule → Bool
is_outer_true I O r = list_all (λ a. not (holds O a && not (holds I a))) r.pos && list_all (λ a. not (holds O a && holds I a)) r.neg

-- a false literal of the body whose atom is an outer one
pub record IsOuterReason (I O : List ℕ) (r : GroundRule) (l : Lit) : Type 0 where
  pub outer : holds O l.atom ≡ true
  pub reason : (U : List ℕ) → IsReason I U r l

-- a reason of an outer atom, where a false literal of the body has one
pub record IsChosen (I U O : List ℕ) (r : GroundRule) (l : Lit) : Type 0 where
  pub reason : IsReason I U r l
  pub outer_first : holds O l.atom ≡ false → is_outer_true I O r ≡ true

-- why one of the rules doesn't support the set
pub record IsReasonOf (G : List GroundRule) (I U O : List ℕ) (l : Lit) : Type 0 where
  pub rule : GroundRule
  pub member : IsIn rule G
  pub chosen : IsChosen I U O rule l

-- a nogood that denies one atom: each other literal is the reason why a rule doesn't support the set
pub record IsAtomNogood (G : List GroundRule) (I U O : List ℕ) (a : ℕ) (clause : List Lit) : Type 0 where
  pub nogood : IsNogood G I U clause
  pub reasons : List Lit
  pub is : clause ≡ denied a ∷ reasons
  pub because : (l : Lit) → IsIn l reasons → IsReasonOf G I U O l

-- further literals, each a reason, that are false together only where the rule doesn't support the set
pub record Blocks (I U O : List ℕ) (r : GroundRule) (old new : List Lit) : Type 0 where
  pub more : List Lit
  pub grown : new ≡ old ++ more
  pub because : (l : Lit) → IsIn l more → IsChosen I U O r l
  pub blocked : (N : List ℕ) → is_false N more ≡ true → supports N U r ≡ false

-- reasons behind some literals, that are false together only where the rules don't support the set
pub record BlocksAll (G rules : List GroundRule) (I U O : List ℕ) (start clause : List Lit) : Type 0 where
  pub reasons : List Lit
  pub is : clause ≡ start ++ reasons
  pub because : (l : Lit) → IsIn l reasons → IsReasonOf G I U O l
  pub blocked : (N : List ℕ) → is_false N reasons ≡ true → is_unfounded rules N U ≡ true
