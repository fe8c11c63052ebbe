-- What contracts see of a search.
use Rattle.std.specs.Prelude.{◌≡◌, ℕ, ◌+◌, ◌*◌, ◌/◌, ◌<◌, ◌≤◌, ◌≢◌, ◌⊎◌, Bool, true, List, [], length, slice_index, Option, None}
use Rattle.asp_clauses.specs.Literal.{most_atoms}
use Rattle.std.specs.List.{Contains}
use Rattle.asp_search.specs.declared.stage.Stage.{Stage}
use Rattle.asp_search.specs.declared.stage.Stage.TheVariants.{New, Begun, Found, Extended, Spent, NoMemory}
use Rattle.asp_search.specs.Meaning.{SatisfiesAll, AllTrue, AddsClause, SameMeaning}
use Rattle.asp_search.specs.Found.{assignment_of}

-- `clauses` has the meaning of the added ones that hold, `firm` that of the firm ones among them; `trail` has the literals that
-- are true, in the order in which they were placed; `count` is how many were placed since the search began, `decisions` how many were decided since it was made;
-- `conflicts` is how many conflicts taught a clause since then, and `interval` after how many learned clauses are dropped next;
-- `ordered` is how `next` was asked since the search began, none before its first call
pub record SearchState : Type 0 where
  pub atoms : ℕ
  pub budget : ℕ
  pub count : ℕ
  pub clauses : List (List ℕ)
  pub firm : List (List ℕ)
  pub assumed : List ℕ
  pub trail : List ℕ
  pub ordered : Option Bool
  pub stage : Stage
  pub decisions : ℕ
  pub conflicts : ℕ
  pub interval : ℕ

-- no clause, no assumption, no search; there are few enough atoms for their literals to have codes
pub record IsFresh (search : SearchState) (atoms budget : ℕ) : Type 0 where
  pub atoms_are : search.atoms ≡ atoms
  pub few : search.atoms ≤ most_atoms
  pub budget_is : search.budget ≡ budget
  pub count : search.count ≡ 0
  pub clauses : search.clauses ≡ []
  pub firm : search.firm ≡ []
  pub assumed : search.assumed ≡ []
  pub trail : search.trail ≡ []
  pub ordered : search.ordered ≡ None
  pub stage : search.stage ≡ New
  pub decisions : search.decisions ≡ 0
  pub conflicts : search.conflicts ≡ 0

-- after a clause was added an answer may be another one
abbrev pub stage_after_add : Stage → Stage
stage_after_add New = New
stage_after_add Begun = Begun
stage_after_add Found = Extended
stage_after_add Extended = Extended
stage_after_add Spent = Spent
stage_after_add NoMemory = NoMemory

-- the clause is added, and nothing else changes
pub record Adds (old new : SearchState) (clause : List ℕ) : Type 0 where
  pub clauses : AddsClause old.clauses new.clauses clause
  pub firm : AddsClause old.firm new.firm clause
  pub rest : new ≡ record old { clauses = new.clauses; firm = new.firm; stage = stage_after_add old.stage }

-- the clause is added as a loose one, and nothing else changes
pub record AddsLoose (old new : SearchState) (clause : List ℕ) : Type 0 where
  pub clauses : AddsClause old.clauses new.clauses clause
  pub rest : new ≡ record old { clauses = new.clauses; stage = stage_after_add old.stage }

-- no atom twice
abbrev pub AreDifferent : List ℕ → Type 0
AreDifferent literals = (i j : ℕ) → i < j → j < length literals → slice_index literals i / 2 ≢ slice_index literals j / 2

-- a search goes on: the clauses keep their meaning, and no placement is forgotten
pub record GoesOn (old new : SearchState) : Type 0 where
  pub atoms : new.atoms ≡ old.atoms
  pub budget : new.budget ≡ old.budget
  pub clauses : SameMeaning old.clauses new.clauses
  pub firm : SameMeaning old.firm new.firm
  pub assumed : new.assumed ≡ old.assumed
  pub count : old.count ≤ new.count
  pub decisions : old.decisions ≤ new.decisions
  pub conflicts : old.conflicts ≤ new.conflicts
  pub interval : old.interval ≤ new.interval

-- each atom has a value; clauses and assumptions hold
pub record IsFound (search : SearchState) : Type 0 where
  pub total : (atom : ℕ) → atom < search.atoms → Contains search.trail (2 * atom + 1) ⊎ Contains search.trail (2 * atom)
  pub clauses : SatisfiesAll (assignment_of search.trail) search.clauses
  pub assumed : AllTrue (assignment_of search.trail) search.assumed

-- where falsity comes before truth and lower atoms count more, no assignment that satisfies clauses and assumptions comes
-- before the found one: none that agrees with it below an atom makes the atom false where the found one makes it true
abbrev pub IsLeast : SearchState → Type 0
IsLeast search =
    (v : ℕ → Bool) → SatisfiesAll v search.clauses → AllTrue v search.assumed
    → (atom : ℕ) → atom < search.atoms → ((lower : ℕ) → lower < atom → v lower ≡ assignment_of search.trail lower)
    → assignment_of search.trail atom ≡ true → v atom ≡ true

-- the last answer of the search was an assignment
abbrev pub HasFound : SearchState → Type 0
HasFound search = (search.stage ≡ Found) ⊎ (search.stage ≡ Extended)
