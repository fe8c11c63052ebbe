-- Which clauses were added and which were learned, that the learned ones follow, and that firm ones follow from firm ones.
use Rattle.std.specs.Prelude.{◌≡◌, ◌≢◌, ℕ, ◌<◌, ◌&&◌, Bool, true, false, not, List, length, map, Some, if◌then◌else◌}
use Rattle.std.specs.List.{Contains}
use Rattle.asp_clauses.specs.declared.kind.Kind.{Kind}
use Rattle.asp_clauses.specs.Trail.{clause_at}
use Rattle.asp_clauses.specs.declared.trail.Step.{Step}
use Rattle.asp_clauses.specs.Trail.{step_at, literal_at, level_at}
use Rattle.asp_clauses.specs.Book.{BookState}
use Rattle.asp_clauses.specs.Kept.{kept, kind_at, is_firm}
use Rattle.asp_search.specs.Meaning.{Satisfies, SatisfiesAll, AddsClause}

-- the clause wasn't learned
abbrev pub is_added : Kind → Bool
is_added kind = not kind.learned

-- nor is it loose
abbrev pub is_firm_added : Kind → Bool
is_firm_added kind = is_added kind && is_firm kind

-- each clause whose kind passes the test has a true literal
abbrev pub Meets : (Kind → Bool) → (ℕ → Bool) → List Kind → List (List ℕ) → Type 0
Meets test v kinds clauses =
    (number : ℕ) → number < length clauses → test (kind_at kinds number) ≡ true → Satisfies v (clause_at clauses number)

-- each clause has a kind, and what satisfies the added clauses satisfies the learned ones
pub record AreLearned (kinds : List Kind) (clauses : List (List ℕ)) : Type 0 where
  pub as_many : length kinds ≡ length clauses
  pub follow : (v : ℕ → Bool) → Meets is_added v kinds clauses → SatisfiesAll v clauses
  pub firm : (v : ℕ → Bool) → Meets is_firm_added v kinds clauses → Meets is_firm v kinds clauses

-- the firm clauses of a book
abbrev pub firm_of : BookState → List (List ℕ)
firm_of book = kept (map is_firm book.kinds) book.clauses

-- the clauses on which a derivation rests: all, where it used a loose one, or else the firm ones
abbrev pub base_of : BookState → Bool → List (List ℕ)
base_of book loose = if loose then book.clauses else firm_of book

-- what a clause that is added changes of the firm ones: nothing, where it is loose
abbrev pub AddsFirm : Bool → List (List ℕ) → List (List ℕ) → List ℕ → Type 0
AddsFirm true old new clause = new ≡ old
AddsFirm false old new clause = AddsClause old new clause

-- the clause is one of these
abbrev pub Has : List (List ℕ) → List ℕ → Type 0
Has clauses clause = (number : ℕ) × (number < length clauses) × (clause_at clauses number ≡ clause)

-- each of the first clauses is one of the others
abbrev pub Within : List (List ℕ) → List (List ℕ) → Type 0
Within base more = (clause : List ℕ) → Has base clause → Has more clause

-- no clause by which the literal at one of these places is implied is loose
abbrev pub AreFirm : List Kind → List Step → ℕ → Type 0
AreFirm kinds steps place =
    (number : ℕ) → (step_at steps place).reason ≡ Some number → (kind_at kinds number).loose ≡ false

-- the first places are before the first decision, and unless it is told that a loose clause is among them, their reasons are firm
pub record IsGround (kinds : List Kind) (steps : List Step) (looked : ℕ) (loose : Bool) : Type 0 where
  pub low : (place : ℕ) → place < looked → (place < length steps) × (level_at steps place ≡ 0)
  pub firm : loose ≡ false → (place : ℕ) → place < looked → AreFirm kinds steps place

-- where the literal at the place is to be resolved, its reason is among the clauses of the base
abbrev pub IsBased : List (List ℕ) → List (List ℕ) → List Step → List ℕ → ℕ → ℕ → Type 0
IsBased base clauses steps marked place pending =
    (number : ℕ) → Contains marked (literal_at steps place) → pending ≢ 1 → (step_at steps place).reason ≡ Some number → Has base (clause_at clauses number)

-- the reasons of what is placed before the first decision are among the clauses
abbrev pub IsGrounded : List (List ℕ) → List (List ℕ) → List Step → Type 0
IsGrounded base clauses steps =
    (place number : ℕ) → place < length steps → level_at steps place ≡ 0 → (step_at steps place).reason ≡ Some number → Has base (clause_at clauses number)
