-- What a search finds: a trail on which every atom has a value.
use Rattle.std.specs.Prelude.{◌≡◌, ℕ, ◌+◌, ◌*◌, ◌<◌, ◌⊎◌, Bool, List, length, map, slice_index}
use Rattle.std.specs.List.{Contains}
use Rattle.asp_clauses.specs.declared.trail.Step.{Step}
use Rattle.asp_clauses.specs.Trail.{IsPlaced}
use Rattle.asp_search.specs.declared.solver.Solver.{Solver}
use Rattle.asp_search.specs.Meaning.{SatisfiesAll, AllTrue}
use Rattle.asp_search.specs.Analysis.{is_member}
use Rattle.asp_search.specs.Solver.{IsReady}

-- the literals of the steps, in order
abbrev pub literals_of : List Step → List ℕ
literals_of steps = map (λ (s : Step). s.literal) steps

-- the assignment in which just those atoms are true whose literals stand in the list
abbrev pub assignment_of : List ℕ → ℕ → Bool
assignment_of literals atom = is_member literals (2 * atom + 1)

-- the next assumption to decide, which isn't true yet
pub record IsNext (solver : Solver) (literal : ℕ) : Type 0 where
  pub within : solver.cursor < length solver.assumed.items
  pub is : slice_index solver.assumed.items solver.cursor ≡ literal
  pub waits : IsPlaced solver.trail.steps literal → ⊥

-- each assumption is true
abbrev pub AreAllTrue : Solver → Type 0
AreAllTrue solver = (literal : ℕ) → Contains solver.assumed.items literal → IsPlaced solver.trail.steps literal

-- each atom has a value, and clauses and assumptions hold
pub record IsSatisfied (solver : Solver) : Type 0 where
  pub total : (atom : ℕ) → atom < solver.trail.atoms
      → Contains (literals_of solver.trail.steps) (2 * atom + 1) ⊎ Contains (literals_of solver.trail.steps) (2 * atom)
  pub clauses : SatisfiesAll (assignment_of (literals_of solver.trail.steps)) solver.book.clauses
  pub assumed : AllTrue (assignment_of (literals_of solver.trail.steps)) solver.assumed.items

-- at most the cursor has moved
pub record MovesCursor (old new : Solver) : Type 0 where
  pub ready : IsReady new
  pub book : new.book ≡ old.book
  pub trail : new.trail ≡ old.trail
  pub assumed : new.assumed ≡ old.assumed
  pub in_order : new.in_order ≡ old.in_order
  pub decided : new.decided ≡ old.decided
  pub activity : new.activity ≡ old.activity
