-- What propagation finds of a clause, and what it has reached in the end.
use Rattle.std.specs.Prelude.{◌≡◌, ◌≢◌, ℕ, ◌+◌, ◌*◌, ◌<◌, ◌≤◌, ◌⊎◌, Some, List, length, slice_index, slice_set, swap}
use Rattle.asp_clauses.specs.declared.trail.Step.{Step}
use Rattle.asp_clauses.specs.declared.watches.Watches.{Watches}
use Rattle.asp_clauses.specs.Literal.{negated}
use Rattle.asp_clauses.specs.Records.{row_at, literals_of}
use Rattle.asp_clauses.specs.Trail.{TrailState, IsPlaced, IsUnassigned, IsFalse, IsUnit, clause_at}
use Rattle.asp_clauses.specs.Moves.{placed}
use Rattle.std.specs.List.Sorted.{IsPermutation}
use Rattle.asp_clauses.specs.Book.{BookState, visit_at}
use Rattle.asp_clauses.specs.Watches.{IsStore, IsListed}
use Rattle.asp_clauses.specs.Visits.{IsAt, MovesWatch, moved, other_watch}

-- no clause is false, and none is unit
abbrev pub IsFixpoint : BookState → List Step → Type 0
IsFixpoint book steps =
    (clause : ℕ) → clause < length book.clauses →
    (¬ IsFalse steps (clause_at book.clauses clause)) × (¬ IsUnit steps (clause_at book.clauses clause))

-- when a literal became false: its one visit; or a number above all visits where it isn't false
pub record IsLatest (trail : TrailState) (literal visit : ℕ) : Type 0 where
  pub fails : visit ≤ length trail.steps → visit_at trail.atoms trail.steps visit ≡ literal
  pub only : (v : ℕ) → v ≤ length trail.steps → visit_at trail.atoms trail.steps v ≡ literal → v ≡ visit

-- the literal became false by this visit
abbrev pub IsFalseBy : TrailState → ℕ → ℕ → Type 0
IsFalseBy trail literal visit = (v : ℕ) × (v ≤ visit) × (visit_at trail.atoms trail.steps v ≡ literal)

-- where the literal at the index became false, those from an index on were false by then
abbrev pub IsLastFrom : TrailState → List ℕ → ℕ → ℕ → Type 0
IsLastFrom trail row from best =
    (other visit : ℕ) → from ≤ other → other < slice_index row 0 → visit ≤ length trail.steps →
    visit_at trail.atoms trail.steps visit ≡ slice_index row (3 + best) → IsFalseBy trail (slice_index row (3 + other)) visit

-- the literal that came to this index of the clause became false no earlier than any after it
pub record Chooses (old new : Watches) (trail : TrailState) (clause index : ℕ) : Type 0 where
  pub same : new ≡ record old { records = new.records }
  pub best : (other : ℕ) × (index ≤ other) × (other < slice_index (row_at old.records clause) 0)
      × (new.records ≡ slice_set old.records clause (swap (row_at old.records clause) (3 + index) (3 + other)))
  pub last : IsLastFrom trail (row_at new.records clause) index index

-- the literals of the clause are in an order such that the two first became false last
pub record Orders (old new : Watches) (trail : TrailState) (clause : ℕ) : Type 0 where
  pub same : new ≡ record old { records = new.records }
  pub store : IsStore new
  pub as_many : length new.records ≡ length old.records
  pub others : (number : ℕ) → number ≢ clause → row_at new.records number ≡ row_at old.records number
  pub size : slice_index (row_at new.records clause) 0 ≡ slice_index (row_at old.records clause) 0
  pub reordered : IsPermutation (literals_of (row_at old.records clause)) (literals_of (row_at new.records clause))
  pub first : IsLastFrom trail (row_at new.records clause) 0 0
  pub second : IsLastFrom trail (row_at new.records clause) 1 1

-- the literal is true now: it was before, or it was placed as implied by the clause
pub record MadeTrue (old new : TrailState) (literal clause : ℕ) : Type 0 where
  pub holds : IsPlaced new.steps literal
  pub how : (new ≡ old) ⊎ ((new ≡ placed old (record { literal = literal; reason = Some clause })) × IsUnassigned old.steps literal)

-- the literal's atom is unassigned, and the budget is used up
pub record IsBarred (old new : TrailState) (literal : ℕ) : Type 0 where
  pub same : new ≡ old
  pub spent : old.count ≡ old.budget
  pub unassigned : IsUnassigned old.steps literal

-- the literal at this index isn't watched, and isn't false
pub record IsNotFalse (watches : Watches) (steps : List Step) (clause index : ℕ) : Type 0 where
  pub unwatched : 2 ≤ index
  pub within : index < slice_index (row_at watches.records clause) 0
  pub stands : IsPlaced steps (negated (slice_index (row_at watches.records clause) (3 + index))) → ⊥

-- each literal of the clause that isn't watched is false
abbrev pub RestIsFalse : Watches → List Step → ℕ → Type 0
RestIsFalse watches steps clause =
    (index : ℕ) → 2 ≤ index → index < slice_index (row_at watches.records clause) 0 →
    IsPlaced steps (negated (slice_index (row_at watches.records clause) (3 + index)))

-- this is the next visit of a trail
pub record IsVisit (trail : TrailState) (falsified : ℕ) : Type 0 where
  pub left : trail.head ≤ length trail.steps
  pub is : visit_at trail.atoms trail.steps trail.head ≡ falsified
  pub within : falsified ≤ 2 * trail.atoms

-- the clause goes on watching the literal that became false, since its other watch is true
pub record StaysWatched (old new : Watches) (trail : TrailState) (falsified clause : ℕ) : Type 0 where
  pub same : new ≡ old
  pub other : IsPlaced trail.steps (other_watch (row_at old.records clause) falsified)

-- the clause watches another literal
pub record MovesOn (old new : Watches) (before after : TrailState) (falsified previous clause : ℕ) : Type 0 where
  pub trail : after ≡ before
  pub store : IsStore new
  pub watch : (index : ℕ) × (2 ≤ index) × (index < slice_index (row_at old.records clause) 0) × MovesWatch old new clause falsified index
  pub listed : (lists : ℕ → List ℕ) (k : ℕ) → IsListed old lists → IsAt lists falsified k previous clause →
      (to : ℕ) × (to ≢ falsified) × IsListed new (moved lists clause falsified k to)
