-- What a trail is: placed literals in order, each a decision or implied by a clause.
use Rattle.std.specs.Prelude.{◌≡◌, ◌≢◌, ◌↔◌, ℕ, zero, suc, ◌+◌, ◌-◌, ◌*◌, ◌/◌, ◌^◌, ◌<◌, Bool, List, [], ◌∷◌, length, take, Option, Some, None, is_none, slice_index_or, if◌then◌else◌, true, false}
use Rattle.std.specs.List.{Contains, count_by}
use Rattle.asp_clauses.specs.declared.trail.Step.{Step}
use Rattle.asp_clauses.specs.declared.trail.Mark.{Mark}
use Rattle.asp_clauses.specs.Literal.{negated}

-- what contracts see of a trail; `marks` and `head` are the propagation's own
pub record TrailState : Type 0 where
  pub atoms : ℕ
  pub budget : ℕ
  pub count : ℕ
  pub steps : List Step
  pub marks : List Mark
  pub head : ℕ

abbrev pub no_step : Step
no_step = record { literal = 0; reason = None }

abbrev pub no_mark : Mark
no_mark = record { start = 0; head = 0 }

abbrev pub step_at : List Step → ℕ → Step
step_at steps place = slice_index_or steps place no_step

abbrev pub literal_at : List Step → ℕ → ℕ
literal_at steps place = (step_at steps place).literal

abbrev pub mark_at : List Mark → ℕ → Mark
mark_at marks level = slice_index_or marks level no_mark

-- a decision has no clause as its reason
abbrev pub is_decision : Step → Bool
is_decision step = is_none step.reason

abbrev pub decisions : List Step → ℕ
decisions steps = count_by is_decision steps

-- how many decisions are placed up to and with this place
abbrev pub level_at : List Step → ℕ → ℕ
level_at steps place = decisions (take (place + 1) steps)

-- the literal is true: it stands in the trail
abbrev pub IsPlaced : List Step → ℕ → Type 0
IsPlaced steps literal = (place : ℕ) × (place < length steps) × (literal_at steps place ≡ literal)

-- neither the literal nor its negation stands in the trail
abbrev pub IsUnassigned : List Step → ℕ → Type 0
IsUnassigned steps literal = (place : ℕ) → place < length steps → literal_at steps place / 2 ≢ literal / 2

-- the atom's literal stands at this place
abbrev pub StandsAt : List Step → ℕ → ℕ → Type 0
StandsAt steps atom place = (place < length steps) × (literal_at steps place / 2 ≡ atom)

-- a literal's value: none exactly where its atom is unassigned, else whether the literal is true
pub record IsValue (steps : List Step) (literal : ℕ) (value : Option Bool) : Type 0 where
  pub unassigned : value ≡ None ↔ IsUnassigned steps literal
  pub holds : value ≡ Some true ↔ IsPlaced steps literal
  pub fails : value ≡ Some false ↔ IsPlaced steps (negated literal)

-- all literals of the clause are false
abbrev pub IsFalse : List Step → List ℕ → Type 0
IsFalse steps clause = (literal : ℕ) → Contains clause literal → IsPlaced steps (negated literal)

-- the literal stands in the clause, and all others are false
pub record Implies (steps : List Step) (clause : List ℕ) (literal : ℕ) : Type 0 where
  pub has : Contains clause literal
  pub others_fail : (other : ℕ) → Contains clause other → other ≢ literal → IsPlaced steps (negated other)

-- one literal is unassigned, and all others are false
abbrev pub IsUnit : List Step → List ℕ → Type 0
IsUnit steps clause = (literal : ℕ) × IsUnassigned steps literal × Implies steps clause literal

abbrev pub clause_at : List (List ℕ) → ℕ → List ℕ
clause_at clauses number = slice_index_or clauses number []

-- a step's reason is a clause that implies its literal by the steps before it
abbrev pub IsReasoned : List (List ℕ) → List Step → Step → Type 0
IsReasoned clauses before step =
    (number : ℕ) → step.reason ≡ Some number → (number < length clauses) × Implies before (clause_at clauses number) step.literal

-- a lawful trail: no atom twice, and each implied literal stands in its clause, all whose other literals are
-- false by earlier steps
pub record IsLawful (atoms : ℕ) (clauses : List (List ℕ)) (steps : List Step) : Type 0 where
  pub in_range : (place : ℕ) → place < length steps → literal_at steps place < 2 * atoms
  pub distinct : (p q : ℕ) → p < q → q < length steps → literal_at steps p / 2 ≢ literal_at steps q / 2
  pub reasoned : (place : ℕ) → place < length steps → IsReasoned clauses (take place steps) (step_at steps place)

-- 1 for a decision, 2 for an implied literal
abbrev pub digit : Step → ℕ
digit step = if is_decision step then 1 else 2

-- the steps as the leading digits of a number with one digit an atom, in base 3
unfoldable pub number : ℕ → List Step → ℕ
number atoms [] = 0
number atoms (step ∷ later) = digit step * 3 ^ (atoms - 1) + number (atoms - 1) later

-- the longest beginning with at most so many decisions
unfoldable pub back_to : ℕ → List Step → List Step
back_to level [] = []
back_to zero (step ∷ later) = if is_decision step then [] else step ∷ back_to zero later
back_to (suc level) (step ∷ later) = if is_decision step then step ∷ back_to level later else step ∷ back_to (suc level) later
