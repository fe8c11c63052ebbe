-- What a trail keeps beside its steps: tables by code and atom, and a mark for each decision.
use Rattle.std.specs.Prelude.{◌≡◌, ℕ, ◌+◌, ◌*◌, ◌/◌, ◌<◌, ◌≤◌, Bool, List, length, take, Option, Some, None, slice_index, slice_index_or, true, false}
use Rattle.asp_clauses.specs.declared.trail.Truth.{Truth}
use Rattle.asp_clauses.specs.declared.trail.Truth.TheVariants.{Unassigned, Holds, Fails}
use Rattle.asp_clauses.specs.declared.trail.Step.{Step}
use Rattle.asp_clauses.specs.declared.trail.Mark.{Mark}
use Rattle.asp_clauses.specs.Literal.{negated}
use Rattle.asp_clauses.specs.Trail.{IsPlaced, IsUnassigned, literal_at, step_at, mark_at, level_at, decisions, is_decision}

-- what a table's value tells of a literal
pub record Tells (steps : List Step) (literal : ℕ) (value : Truth) : Type 0 where
  pub unassigned : value ≡ Unassigned → IsUnassigned steps literal
  pub holds : value ≡ Holds → IsPlaced steps literal
  pub fails : value ≡ Fails → IsPlaced steps (negated literal)

-- the value as callers see it
abbrev pub told : Truth → Option Bool
told Unassigned = None
told Holds = Some true
told Fails = Some false

-- values, positions and levels are those of the steps
pub record AreTables (atoms : ℕ) (steps : List Step) (truths : List Truth) (places depths : List ℕ) : Type 0 where
  pub codes : (place : ℕ) → place < length steps → literal_at steps place < 2 * atoms
  pub values : (code : ℕ) → code < 2 * atoms → Tells steps code (slice_index_or truths code Unassigned)
  pub origin_value : slice_index_or truths (2 * atoms) Unassigned ≡ Fails
  pub positions : (place : ℕ) → place < length steps → slice_index places (literal_at steps place / 2) ≡ place + 1
  pub origin_position : slice_index places atoms ≡ 0
  pub levels : (place : ℕ) → place < length steps → slice_index depths (literal_at steps place / 2) ≡ level_at steps place

-- the mark of a decision
pub record IsMark (steps : List Step) (level : ℕ) (mark : Mark) : Type 0 where
  pub within : mark.start < length steps
  pub decision : is_decision (step_at steps mark.start) ≡ true
  pub before : decisions (take mark.start steps) ≡ level
  pub visits : mark.head ≤ mark.start + 1

-- the marks are those of the decisions, and visits never fall behind from one to the next
pub record AreMarks (steps : List Step) (marks : List Mark) (head : ℕ) : Type 0 where
  pub as_many : length marks ≡ decisions steps
  pub each : (level : ℕ) → level < length marks → IsMark steps level (mark_at marks level)
  pub ordered : (i j : ℕ) → i ≤ j → j < length marks → (mark_at marks i).head ≤ (mark_at marks j).head
  pub last : (level : ℕ) → level < length marks → (mark_at marks level).head ≤ head
  pub visits : head ≤ length steps + 1
