-- The state of a search between two steps.
use Rattle.std.specs.Prelude.{◌≡◌, ◌≢◌, ℕ, ◌+◌, ◌*◌, ◌/◌, ◌<◌, ◌≤◌, ◌⊎◌, Bool, true, List, [], length, take, slice_index, min}
use Rattle.std.specs.List.{Contains}
use Rattle.asp_clauses.specs.declared.trail.Step.{Step}
use Rattle.asp_clauses.specs.Trail.{IsPlaced, step_at, literal_at, level_at, is_decision, decisions, clause_at}
use Rattle.asp_decide.specs.Total.{IsTotal, DeniesFirst}
use Rattle.asp_search.specs.declared.solver.Solver.{Solver}
use Rattle.asp_search.specs.Meaning.{SatisfiesAll, SameMeaning}
use Rattle.asp_search.specs.Seen.{AreCodes}
use Rattle.asp_search.specs.Learned.{AreLearned, IsGround, firm_of}
use Rattle.asp_search.specs.Fit.{AreFitted}
use Rattle.asp_search.specs.ClauseActivity.{IsLater}

-- codes in range, and no atom twice
pub record AreAssumptions (atoms : ℕ) (assumed : List ℕ) : Type 0 where
  pub codes : AreCodes (2 * atoms) assumed
  pub distinct : (i j : ℕ) → i < j → j < length assumed → slice_index assumed i / 2 ≢ slice_index assumed j / 2

-- each decision is an assumption, or all assumptions are true before it
abbrev pub DecidesAssumed : List ℕ → List Step → Type 0
DecidesAssumed assumed steps =
    (place : ℕ) → place < length steps → is_decision (step_at steps place) ≡ true
    → Contains assumed (literal_at steps place) ⊎ ((literal : ℕ) → Contains assumed literal → IsPlaced (take place steps) literal)

-- the assumption is true, at most at the level that it would be decided at, and by the first `held` decisions
pub record IsHeld (assumed : List ℕ) (steps : List Step) (held i : ℕ) : Type 0 where
  pub place : ℕ
  pub within : place < length steps
  pub is : literal_at steps place ≡ slice_index assumed i
  pub level : level_at steps place ≤ i + 1
  pub by_held : level_at steps place ≤ held

-- the assumptions before the cursor are true
pub record IsCursor (assumed : List ℕ) (steps : List Step) (cursor held : ℕ) : Type 0 where
  pub within : cursor ≤ length assumed
  pub placed : (i : ℕ) → i < cursor → IsHeld assumed steps held i
  pub decided : cursor < length assumed → decisions steps ≤ cursor

-- the cursor after a jump to a level: where it was, if the level keeps the assumptions before it, or else at the level
abbrev pub IsRewound : ℕ → ℕ → ℕ → ℕ → ℕ → Type 0
IsRewound cursor held level new_cursor new_held =
    ((new_cursor ≡ cursor) × (new_held ≡ held) × (held ≤ level)) ⊎ ((new_cursor ≡ min cursor level) × (new_held ≡ level))

-- each decision is an assumption, or makes the first atom without a value false
abbrev pub DecidesInOrder : List ℕ → List Step → Type 0
DecidesInOrder assumed steps =
    (place : ℕ) → place < length steps → is_decision (step_at steps place) ≡ true
    → Contains assumed (literal_at steps place) ⊎ DeniesFirst (take place steps) (literal_at steps place)

-- all atoms below the front have values, and where choices are in order, so are the decisions
pub record IsOrderly (assumed : List ℕ) (steps : List Step) (front : ℕ) (in_order : Bool) : Type 0 where
  pub valued : IsTotal front steps
  pub decides : in_order ≡ true → DecidesInOrder assumed steps

-- the front after what isn't of the first levels is undone: not above where it was, nor above an atom that is undone
pub record IsTakenBack (steps : List Step) (levels front new_front : ℕ) : Type 0 where
  pub no_further : new_front ≤ front
  pub undone : (place : ℕ) → place < length steps → levels ≤ level_at steps place → new_front ≤ literal_at steps place / 2

-- each literal of the clauses is on one of the atoms
abbrev pub AreInRange : ℕ → List (List ℕ) → Type 0
AreInRange atoms clauses =
    (number literal : ℕ) → number < length clauses → Contains (clause_at clauses number) literal → literal < 2 * atoms

pub record IsReady (solver : Solver) : Type 0 where
  pub fitted : AreFitted solver.book solver.trail solver.seen solver.heap
  pub ranges : AreInRange solver.trail.atoms solver.book.clauses
  pub learned : AreLearned solver.book.kinds solver.book.clauses
  pub ground : IsGround solver.book.kinds solver.trail.steps solver.looked solver.ground_loose
  pub unmarked : solver.seen.marked ≡ []
  pub assumptions : AreAssumptions solver.trail.atoms solver.assumed.items
  pub assumed : DecidesAssumed solver.assumed.items solver.trail.steps
  pub cursor : IsCursor solver.assumed.items solver.trail.steps solver.cursor solver.held
  pub order : IsOrderly solver.assumed.items solver.trail.steps solver.front solver.in_order

-- nothing that callers see has changed but the trail, counts that grew, and the clauses up to their meaning
pub record Stays (old new : Solver) : Type 0 where
  pub ready : IsReady new
  pub meaning : SameMeaning old.book.clauses new.book.clauses
  pub firm : SameMeaning (firm_of old.book) (firm_of new.book)
  pub atoms : new.trail.atoms ≡ old.trail.atoms
  pub budget : new.trail.budget ≡ old.trail.budget
  pub assumptions : new.assumed.items ≡ old.assumed.items
  pub in_order : new.in_order ≡ old.in_order
  pub count : old.trail.count ≤ new.trail.count
  pub decided : old.decided ≤ new.decided
  pub activity : IsLater old.activity new.activity

-- no assignment satisfies the clauses
abbrev pub AreRefuted : List (List ℕ) → Type 0
AreRefuted clauses = (v : ℕ → Bool) → SatisfiesAll v clauses → ⊥
