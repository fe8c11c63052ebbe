-- What a book of clauses is, and when a book and a trail go together.
use Rattle.std.specs.Prelude.{◌≡◌, ◌≢◌, ℕ, zero, suc, ◌*◌, ◌/◌, ◌^◌, ◌<◌, ◌≤◌, List, length, take, slice_index_or}
use Rattle.std.specs.List.Sorted.{IsPermutation}
use Rattle.asp_clauses.specs.declared.kind.Kind.{Kind}
use Rattle.asp_clauses.specs.declared.trail.Step.{Step}
use Rattle.asp_clauses.specs.Literal.{negated}
use Rattle.asp_clauses.specs.Tables.{AreMarks}
use Rattle.asp_clauses.specs.Trail.{TrailState, IsPlaced, IsLawful, literal_at, mark_at, clause_at, number}

-- what contracts see of a book; `watched` says how many clauses propagation has looked at
pub record BookState : Type 0 where
  pub atoms : ℕ
  pub clauses : List (List ℕ)
  pub kinds : List Kind
  pub watched : ℕ

-- the same clauses at the same numbers, each but for the order of its literals
pub record SameClauses (old new : List (List ℕ)) : Type 0 where
  pub as_many : length new ≡ length old
  pub reordered : (clause : ℕ) → clause < length old → IsPermutation (clause_at old clause) (clause_at new clause)

-- codes of the atoms in range, and no atom twice
pub record IsClause (atoms : ℕ) (clause : List ℕ) : Type 0 where
  pub in_range : (i : ℕ) → i < length clause → slice_index_or clause i 0 < 2 * atoms
  pub distinct : (i j : ℕ) → i < j → j < length clause → slice_index_or clause i 0 / 2 ≢ slice_index_or clause j 0 / 2

-- the code of no literal, which is false from the start of every trail: a clause of one literal watches it too
abbrev pub origin : ℕ → ℕ
origin atoms = 2 * atoms

-- what propagation visits, in order: the origin, and then each literal that a step made false
abbrev pub visit_at : ℕ → List Step → ℕ → ℕ
visit_at atoms steps zero = origin atoms
visit_at atoms steps (suc place) = negated (literal_at steps place)

abbrev pub first_watch : ℕ → List ℕ → ℕ
first_watch atoms clause = slice_index_or clause 0 (origin atoms)

abbrev pub second_watch : ℕ → List ℕ → ℕ
second_watch atoms clause = slice_index_or clause 1 (origin atoms)

-- where the watched literal was visited, the other one is true
abbrev pub IsGuarded : ℕ → List Step → ℕ → ℕ → ℕ → Type 0
IsGuarded atoms steps head watch other =
    (visit : ℕ) → visit < head → visit_at atoms steps visit ≡ watch → IsPlaced steps other

pub record IsWatched (atoms : ℕ) (steps : List Step) (head : ℕ) (clause : List ℕ) : Type 0 where
  pub first : IsGuarded atoms steps head (first_watch atoms clause) (second_watch atoms clause)
  pub second : IsGuarded atoms steps head (second_watch atoms clause) (first_watch atoms clause)

-- the first clauses, as many as are watched, for a trail of which `head` visits are done
abbrev pub AllWatched : BookState → List Step → ℕ → Type 0
AllWatched book steps head =
    (clause : ℕ) → clause < book.watched → IsWatched book.atoms steps head (clause_at book.clauses clause)

-- the book's watches are right for the trail, and for each part of it to which a jump can go back
pub record WatchesFit (book : BookState) (trail : TrailState) : Type 0 where
  pub now : AllWatched book trail.steps trail.head
  pub back : (level : ℕ) → level < length trail.marks →
      AllWatched book (take (mark_at trail.marks level).start trail.steps) (mark_at trail.marks level).head

-- a book and a trail go together
pub record Goes (book : BookState) (trail : TrailState) : Type 0 where
  pub same_atoms : book.atoms ≡ trail.atoms
  pub lawful : IsLawful trail.atoms book.clauses trail.steps
  pub counted : trail.count ≤ number trail.atoms trail.steps
  pub bounded : trail.count < 3 ^ trail.atoms
  pub marks : AreMarks trail.steps trail.marks trail.head
  pub watches : WatchesFit book trail
