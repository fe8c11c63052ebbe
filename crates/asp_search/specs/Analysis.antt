-- Why a clause is false: which placed literals make it so, by resolution along the trail.
use Rattle.std.specs.Prelude.{◌≡◌, ◌≢◌, ℕ, zero, suc, ◌+◌, ◌*◌, ◌/◌, slice_index, ◌<◌, ◌≤◌, ◌==◌, ◌||◌, ◌&&◌, ◌⊎◌, Bool, true, false, List, [], ◌∷◌, ◌++◌, length, Some, if◌then◌else◌}
use Rattle.std.specs.List.{Contains}
use Rattle.asp_clauses.specs.declared.trail.Step.{Step}
use Rattle.asp_clauses.specs.Literal.{negated}
use Rattle.asp_clauses.specs.Trail.{IsPlaced, IsUnassigned, Implies, clause_at, step_at, literal_at, level_at, back_to}
use Rattle.asp_clauses.specs.Book.{IsClause}
use Rattle.asp_search.specs.Learned.{Has}
use Rattle.asp_search.specs.Meaning.{truth, Satisfies, SatisfiesAll, AllTrue, MentionedIn, Mentions}

-- whether the literal stands in the list
abbrev pub is_member : List ℕ → ℕ → Bool
is_member [] literal = false
is_member (x ∷ xs) literal = (x == literal) || is_member xs literal

-- no assignment satisfies the clauses, makes the marked literals before place `end` true, and the kept ones
pub record Refutes (clauses : List (List ℕ)) (steps : List Step) (marked : List ℕ) (end : ℕ) (kept : List ℕ) : Type 0 where
  pub none : (v : ℕ → Bool) → SatisfiesAll v clauses
      → ((place : ℕ) → place < end → place < length steps → Contains marked (literal_at steps place) → truth v (literal_at steps place) ≡ true)
      → AllTrue v kept → ⊥

-- the literal is placed before the first decision
pub record IsFixed (steps : List Step) (literal : ℕ) : Type 0 where
  pub place : ℕ
  pub within : place < length steps
  pub is : literal_at steps place ≡ literal
  pub low : level_at steps place ≡ 0

-- what makes literals of the clause false is fixed or marked
abbrev pub Covers : List Step → List ℕ → List ℕ → Type 0
Covers steps marked clause =
    (literal : ℕ) → Contains clause literal → IsPlaced steps (negated literal)
    → IsFixed steps (negated literal) ⊎ Contains marked (negated literal)

-- each marked literal is placed, after the first decision and at most at this level
pub record IsMarkedAt (steps : List Step) (level literal : ℕ) : Type 0 where
  pub place : ℕ
  pub within : place < length steps
  pub is : literal_at steps place ≡ literal
  pub above : 0 < level_at steps place
  pub most : level_at steps place ≤ level

abbrev pub AreMarked : List Step → ℕ → List ℕ → Type 0
AreMarked steps level marked = (literal : ℕ) → Contains marked literal → IsMarkedAt steps level literal

-- how many of the marked literals are of this level and stand before place `end`
unfoldable pub open_below : List ℕ → List Step → ℕ → ℕ → ℕ
open_below marked steps level zero = 0
open_below marked steps level (suc place) =
    (if is_member marked (literal_at steps place) && (level_at steps place == level) then 1 else 0) + open_below marked steps level place

-- the literal at the place is implied by fixed and marked ones, through a clause of the base
pub record IsRedundant (base clauses : List (List ℕ)) (steps : List Step) (marked : List ℕ) (place : ℕ) : Type 0 where
  pub number : ℕ
  pub reason : (step_at steps place).reason ≡ Some number
  pub based : Has base (clause_at clauses number)
  pub others : (other : ℕ) → Contains (clause_at clauses number) other → other ≢ literal_at steps place
      → IsFixed steps (negated other) ⊎ Contains marked (negated other)

-- no atom stands twice
abbrev pub AreApart : List Step → Type 0
AreApart steps = (p q : ℕ) → p < q → q < length steps → literal_at steps p / 2 ≢ literal_at steps q / 2

-- what makes a literal of the clause false is at most of this level
abbrev pub AtMost : List Step → List ℕ → ℕ → Type 0
AtMost steps clause level =
    (literal place : ℕ) → Contains clause literal → place < length steps → literal_at steps place ≡ negated literal → level_at steps place ≤ level

-- what makes a literal of the clause false stands before place `end`
abbrev pub Before : List Step → List ℕ → ℕ → Type 0
Before steps clause end =
    (literal place : ℕ) → Contains clause literal → place < length steps → literal_at steps place ≡ negated literal → place < end

-- the marks grow by what makes the clause false; `pending` of the new ones are of the level
pub record MarksReason (steps : List Step) (clause : List ℕ) (level : ℕ) (old new : List ℕ) (pending : ℕ) : Type 0 where
  pub grows : (literal : ℕ) → Contains old literal → Contains new literal
  pub covers : Covers steps new clause
  pub marked : AreMarked steps level new
  pub counts : (end : ℕ) → end ≤ length steps → Before steps clause end → open_below new steps level end ≡ open_below old steps level end + pending
  pub mentions : (literal : ℕ) → Contains new literal → Contains old literal ⊎ MentionedIn clause (literal / 2)

-- the highest level of what makes the clause false
pub record IsTopLevel (steps : List Step) (clause : List ℕ) (level : ℕ) : Type 0 where
  pub most : AtMost steps clause level
  pub reached : 0 < level → (literal : ℕ) × (place : ℕ) × Contains clause literal × (place < length steps) × (literal_at steps place ≡ negated literal) × (level_at steps place ≡ level)

-- the marks before place `end` refute the clauses, and `pending` of them are of the level
pub record IsWalk (clauses : List (List ℕ)) (steps : List Step) (marked : List ℕ) (level end pending : ℕ) : Type 0 where
  pub refutes : Refutes clauses steps marked end []
  pub count : pending ≡ open_below marked steps level end
  pub some : 0 < pending
  pub within : end ≤ length steps
  pub levels : AreMarked steps level marked
  pub mentions : (literal : ℕ) → Contains marked literal → Mentions clauses (literal / 2)

-- the marks up to this place refute the clauses, and no other of them is of the level
pub record IsCut (clauses : List (List ℕ)) (steps : List Step) (marked : List ℕ) (level place : ℕ) : Type 0 where
  pub refutes : Refutes clauses steps marked (suc place) []
  pub within : place < length steps
  pub is_marked : Contains marked (literal_at steps place)
  pub at_level : level_at steps place ≡ level
  pub alone : (p : ℕ) → p < place → Contains marked (literal_at steps p) → level_at steps p < level
  pub levels : AreMarked steps level marked
  pub mentions : (literal : ℕ) → Contains marked literal → Mentions clauses (literal / 2)

-- a clause that follows, and that implies the negation of the literal at the place once the trail went back
pub record IsLearned (atoms : ℕ) (clauses : List (List ℕ)) (steps : List Step) (learned : List ℕ) (place target : ℕ) : Type 0 where
  pub clause : IsClause atoms learned
  pub follows : (v : ℕ → Bool) → SatisfiesAll v clauses → Satisfies v learned
  pub lower : target < level_at steps place
  pub code : negated (literal_at steps place) < 2 * atoms
  pub implies : Implies (back_to target steps) learned (negated (literal_at steps place))
  pub unassigned : IsUnassigned (back_to target steps) (negated (literal_at steps place))
  pub mentions : (atom : ℕ) → MentionedIn learned atom → Mentions clauses atom

-- the higher of two levels
pub record IsHighest (a b highest : ℕ) : Type 0 where
  pub left : a ≤ highest
  pub right : b ≤ highest
  pub one : (highest ≡ a) ⊎ (highest ≡ b)

-- a marked literal adds nothing
pub record IsPassed (base clauses : List (List ℕ)) (steps : List Step) (marked : List ℕ) (place level : ℕ) (old new : List ℕ) (target next : ℕ) : Type 0 where
  pub same : new ≡ old
  pub kept : next ≡ target
  pub why : (level ≤ level_at steps place) ⊎ IsRedundant base clauses steps marked place

-- its negation is added
pub record IsAdded (steps : List Step) (place literal level : ℕ) (old new : List ℕ) (target next : ℕ) : Type 0 where
  pub grows : new ≡ old ++ negated literal ∷ []
  pub high : IsHighest target (level_at steps place) next
  pub lower : level_at steps place < level

-- what a marked literal does to the clause that is being learned
pub record Takes (base clauses : List (List ℕ)) (steps : List Step) (marked : List ℕ) (literal level : ℕ) (old new : List ℕ) (target next : ℕ) : Type 0 where
  pub place : ℕ
  pub within : place < length steps
  pub is : literal_at steps place ≡ literal
  pub outcome : IsPassed base clauses steps marked place level old new target next ⊎ IsAdded steps place literal level old new target next

-- the literal is the negation of a marked one that stands before the place, at most of the target's level
pub record IsTaken (steps : List Step) (marked : List ℕ) (place done target literal : ℕ) : Type 0 where
  pub k : ℕ
  pub before : k < done
  pub is : literal ≡ negated (slice_index marked k)
  pub at : ℕ
  pub lower : at < place
  pub there : literal_at steps at ≡ slice_index marked k
  pub low : level_at steps at ≤ target

-- the negations of the cut's literal and of marked ones, of which the first `done` are treated
pub record IsLearning (base clauses : List (List ℕ)) (steps : List Step) (marked : List ℕ) (level place : ℕ) (learned : List ℕ) (done target : ℕ) : Type 0 where
  pub has : Contains learned (negated (literal_at steps place))
  pub treated : (k p : ℕ) → k < done → p < place → literal_at steps p ≡ slice_index marked k
      → Contains learned (negated (slice_index marked k)) ⊎ IsRedundant base clauses steps marked p
  pub each : (a : ℕ) → a < length learned → (slice_index learned a ≡ negated (literal_at steps place)) ⊎ IsTaken steps marked place done target (slice_index learned a)
  pub distinct : (a b : ℕ) → a < b → b < length learned → slice_index learned a / 2 ≢ slice_index learned b / 2
  pub below : target < level
