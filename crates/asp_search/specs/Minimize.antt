-- What is marked beside what an analysis marked, since it may follow from that.
use Rattle.std.specs.Prelude.{◌≡◌, ◌≢◌, ℕ, ◌/◌, ◌<◌, ◌⊎◌, List, [], ◌∷◌, ◌++◌, length}
use Rattle.std.specs.List.{Contains}
use Rattle.asp_clauses.specs.declared.trail.Step.{Step}
use Rattle.asp_clauses.specs.Literal.{negated}
use Rattle.asp_clauses.specs.Trail.{literal_at, level_at}
use Rattle.asp_search.specs.Meaning.{Mentions}

-- the literal is placed after the first decision and below the level, on an atom of the clauses
pub record IsBelow (clauses : List (List ℕ)) (steps : List Step) (level literal : ℕ) : Type 0 where
  pub place : ℕ
  pub within : place < length steps
  pub is : literal_at steps place ≡ literal
  pub above : 0 < level_at steps place
  pub below : level_at steps place < level
  pub mentioned : Mentions clauses (literal / 2)

-- the marks grow by literals below the level
pub record MarksBelow (clauses : List (List ℕ)) (steps : List Step) (level : ℕ) (old new : List ℕ) : Type 0 where
  pub added : List ℕ
  pub is : new ≡ old ++ added
  pub each : (literal : ℕ) → Contains added literal → IsBelow clauses steps level literal

-- the literal is placed after the first decision
abbrev pub IsAboveStart : List Step → ℕ → Type 0
IsAboveStart steps literal =
    (place : ℕ) → place < length steps → literal_at steps place ≡ literal → 0 < level_at steps place

-- at most what makes this literal of a reason false is marked, and only where it isn't the implied literal
abbrev pub MarksOne : List Step → ℕ → ℕ → List ℕ → List ℕ → Type 0
MarksOne steps literal other old new =
    (new ≡ old) ⊎ ((new ≡ old ++ negated other ∷ []) × (other ≢ literal) × IsAboveStart steps (negated other))
