-- How the steps of propagation change watches and trail.
use Rattle.std.specs.Prelude.{◌≡◌, ◌≢◌, ℕ, ◌+◌, ◌-◌, ◌<◌, ◌≤◌, ◌==◌, false, List, ◌∷◌, ◌++◌, length, slice_index, slice_index_or, slice_set, swap, if◌then◌else◌}
use Rattle.std.specs.List.{remove}
use Rattle.asp_clauses.specs.declared.trail.Step.{Step}
use Rattle.asp_clauses.specs.declared.watches.Watches.{Watches}
use Rattle.asp_clauses.specs.Records.{row_at, literals_of, end}
use Rattle.asp_clauses.specs.Trail.{TrailState, IsFalse, IsUnit, is_decision, step_at, clause_at}
use Rattle.asp_clauses.specs.Book.{BookState, SameClauses, Goes}
use Rattle.asp_clauses.specs.Watches.{AreWatches, side_of, link_of, book_of}

-- the clause now leads the list of the literal that it watches on this side
pub record Links (old new : Watches) (clause side : ℕ) : Type 0 where
  pub atoms : new.atoms ≡ old.atoms
  pub watched : new.watched ≡ old.watched
  pub heads : new.heads.items ≡ slice_set old.heads.items (slice_index (row_at old.records clause) (3 + side)) clause
  pub records : new.records ≡ slice_set old.records clause (slice_set (row_at old.records clause) (1 + side) (slice_index old.heads.items (slice_index (row_at old.records clause) (3 + side))))

-- the link that led to the clause in the literal's list now leads past it
pub record Unlinks (old new : Watches) (previous clause literal : ℕ) : Type 0 where
  pub atoms : new.atoms ≡ old.atoms
  pub watched : new.watched ≡ old.watched
  pub first_heads : previous ≡ end → new.heads.items ≡ slice_set old.heads.items literal (link_of old.records literal clause)
  pub first_records : previous ≡ end → new.records ≡ old.records
  pub later_heads : previous ≢ end → new.heads.items ≡ old.heads.items
  pub later_records : previous ≢ end → new.records ≡ slice_set old.records previous (slice_set (row_at old.records previous) (1 + side_of (row_at old.records previous) literal) (link_of old.records literal clause))

-- the clause stands at this place of the literal's list, after `previous`
pub record IsAt (lists : ℕ → List ℕ) (literal k previous clause : ℕ) : Type 0 where
  pub within : k < length (lists literal)
  pub here : slice_index_or (lists literal) k end ≡ clause
  pub first : k ≡ 0 → previous ≡ end
  pub later : (j : ℕ) → k ≡ j + 1 → slice_index_or (lists literal) j end ≡ previous

-- the lists after a clause was put at the front of one
abbrev pub consed : (ℕ → List ℕ) → ℕ → ℕ → ℕ → List ℕ
consed lists to clause literal = if literal == to then clause ∷ lists to else lists literal

-- the lists after the clause at a place of one was taken out
abbrev pub removed : (ℕ → List ℕ) → ℕ → ℕ → ℕ → List ℕ
removed lists from k literal = if literal == from then remove (lists from) k else lists literal

-- the lists after the clause at place k of one list has moved to the front of another
abbrev pub moved : (ℕ → List ℕ) → ℕ → ℕ → ℕ → ℕ → ℕ → List ℕ
moved lists clause from k to = consed (removed lists from k) to clause

-- the literal that the clause watches besides this one
abbrev pub other_watch : List ℕ → ℕ → ℕ
other_watch row literal = slice_index row (4 - side_of row literal)

-- in this clause, the literal at the index and the one that was watched have changed places
pub record MovesWatch (old new : Watches) (clause literal index : ℕ) : Type 0 where
  pub atoms : new.atoms ≡ old.atoms
  pub watched : new.watched ≡ old.watched
  pub as_many : length new.records ≡ length old.records
  pub others : (number : ℕ) → number ≢ clause → literals_of (row_at new.records number) ≡ literals_of (row_at old.records number)
  pub swapped : literals_of (row_at new.records clause) ≡ swap (literals_of (row_at old.records clause)) (side_of (row_at old.records clause) literal) index
  pub moved_in : slice_index (row_at new.records clause) (3 + side_of (row_at old.records clause) literal) ≡ slice_index (row_at old.records clause) (3 + index)
  pub kept : (side : ℕ) → side < 2 → side ≢ side_of (row_at old.records clause) literal →
      slice_index (row_at new.records clause) (3 + side) ≡ slice_index (row_at old.records clause) (3 + side)
  pub watches : (number literal : ℕ) → number ≢ clause → other_watch (row_at new.records number) literal ≡ other_watch (row_at old.records number) literal

-- one more clause is watched
pub record WatchesOneMore (old new : Watches) : Type 0 where
  pub atoms : new.atoms ≡ old.atoms
  pub watched : new.watched ≡ old.watched + 1
  pub clauses : (book_of new).clauses ≡ (book_of old).clauses
  pub as_many : length new.records ≡ length old.records

-- no more clauses are watched, and each clause is as it was
pub record IsUnlinked (old new : Watches) : Type 0 where
  pub atoms : new.atoms ≡ old.atoms
  pub watched : new.watched ≤ old.watched
  pub clauses : (book_of new).clauses ≡ (book_of old).clauses
  pub as_many : length new.records ≡ length old.records

-- implied literals were placed, and each was counted
pub record ExtendsBy (old new : TrailState) (added : List Step) : Type 0 where
  pub steps : new.steps ≡ old.steps ++ added
  pub implied : (place : ℕ) → place < length added → is_decision (step_at added place) ≡ false
  pub count : new.count ≡ old.count + length added
  pub atoms : new.atoms ≡ old.atoms
  pub budget : new.budget ≡ old.budget

abbrev pub Extends : TrailState → TrailState → Type 0
Extends old new = (added : List Step) × ExtendsBy old new added

-- the budget is used up, and some clause is unit
pub record IsStopped (book : BookState) (trail : TrailState) : Type 0 where
  pub spent : trail.count ≡ trail.budget
  pub unit : (clause : ℕ) × (clause < length book.clauses) × IsUnit trail.steps (clause_at book.clauses clause)

-- watches and trail still go together, and nothing but implied literals was placed
pub record Propagates (old new : Watches) (before after : TrailState) : Type 0 where
  pub watches : AreWatches new
  pub goes : Goes (book_of new) after
  pub clauses : SameClauses (book_of old).clauses (book_of new).clauses
  pub atoms : new.atoms ≡ old.atoms
  pub extended : Extends before after

-- the clause at this number is false
abbrev pub IsConflict : BookState → List Step → ℕ → Type 0
IsConflict book steps clause = (clause < length book.clauses) × IsFalse steps (clause_at book.clauses clause)
