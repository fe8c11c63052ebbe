-- How the calls of a trail change it.
use Rattle.std.specs.Prelude.{◌≡◌, ◌≢◌, ℕ, ◌+◌, ◌*◌, ◌/◌, ◌<◌, ◌≤◌, ◌⊎◌, min, List, [], ◌∷◌, ◌++◌, length, take, slice_index_or, if◌then◌else◌}
use Rattle.asp_clauses.specs.declared.trail.Step.{Step}
use Rattle.asp_clauses.specs.declared.trail.Truth.{Truth}
use Rattle.asp_clauses.specs.declared.trail.Truth.TheVariants.{Unassigned}
use Rattle.asp_clauses.specs.declared.trail.Mark.{Mark}
use Rattle.asp_clauses.specs.Literal.{negated}
use Rattle.asp_clauses.specs.Trail.{TrailState, mark_at, literal_at, is_decision, back_to, IsPlaced, IsUnassigned}
use Rattle.asp_clauses.specs.Book.{visit_at}

-- the trail is these steps and one more, and one more placement was counted
pub record Places (old new : TrailState) (before : List Step) (step : Step) : Type 0 where
  pub steps : new.steps ≡ before ++ step ∷ []
  pub count : new.count ≡ old.count + 1
  pub atoms : new.atoms ≡ old.atoms
  pub budget : new.budget ≡ old.budget

-- the trail after a placement: a decision leaves a mark
abbrev pub placed : TrailState → Step → TrailState
placed trail step = record trail {
  count = trail.count + 1;
  steps = trail.steps ++ step ∷ [];
  marks = if is_decision step then trail.marks ++ (record { start = length trail.steps; head = trail.head }) ∷ [] else trail.marks;
}

-- the trail before the decision after the first `level`
abbrev pub gone_back : TrailState → ℕ → TrailState
gone_back trail level = record trail {
  steps = back_to level trail.steps;
  marks = take level trail.marks;
  head = (mark_at trail.marks level).head;
}

-- this literal is the next visit
pub record NextVisit (trail : TrailState) (code : ℕ) : Type 0 where
  pub left : trail.head ≤ length trail.steps
  pub is : code ≡ visit_at trail.atoms trail.steps trail.head
  pub within : code ≤ 2 * trail.atoms
  pub few : trail.head ≤ trail.atoms

-- a mark with no more visits than up to this one
abbrev pub lowered : ℕ → Mark → Mark
lowered visit mark = record { start = mark.start; head = min mark.head visit }

-- no mark has more visits than up to this one
pub record Lowers (old new : TrailState) (visit : ℕ) : Type 0 where
  pub others : new ≡ record old { marks = new.marks }
  pub as_many : length new.marks ≡ length old.marks
  pub low : (level : ℕ) → level < length old.marks → mark_at new.marks level ≡ lowered visit (mark_at old.marks level)

-- the literal isn't true: it is false or the origin, or its atom is unassigned
abbrev pub IsOpen : TrailState → ℕ → Type 0
IsOpen trail code = code < 2 * trail.atoms → IsUnassigned trail.steps code ⊎ IsPlaced trail.steps (negated code)

-- both literals of the atom are unassigned
pub record IsCleared (values : List Truth) (literal : ℕ) : Type 0 where
  pub itself : slice_index_or values literal Unassigned ≡ Unassigned
  pub negation : slice_index_or values (negated literal) Unassigned ≡ Unassigned

-- none of these steps is on the atom of the code
abbrev pub IsOutside : List Step → ℕ → ℕ → ℕ → Type 0
IsOutside steps from to code = (place : ℕ) → from ≤ place → place < to → literal_at steps place / 2 ≢ code / 2
