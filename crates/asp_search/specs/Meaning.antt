-- What clauses mean. A literal is a code: `2 * atom + 1` for the atom, `2 * atom` for its negation.
use Rattle.std.specs.Prelude.{◌≡◌, ℕ, ◌/◌, ◌%◌, ◌<◌, ◌==◌, ◌⊎◌, Bool, true, not, List, length, if◌then◌else◌}
use Rattle.std.specs.List.{Contains}
use Rattle.asp_clauses.specs.Trail.{clause_at}

-- the truth of a literal
abbrev pub truth : (ℕ → Bool) → ℕ → Bool
truth v literal = if literal % 2 == 1 then v (literal / 2) else not (v (literal / 2))

-- some literal of the clause is true
pub record Satisfies (v : ℕ → Bool) (clause : List ℕ) : Type 0 where
  pub literal : ℕ
  pub has : Contains clause literal
  pub holds : truth v literal ≡ true

-- each clause has a true literal
abbrev pub SatisfiesAll : (ℕ → Bool) → List (List ℕ) → Type 0
SatisfiesAll v clauses = (number : ℕ) → number < length clauses → Satisfies v (clause_at clauses number)

-- each of these literals is true
abbrev pub AllTrue : (ℕ → Bool) → List ℕ → Type 0
AllTrue v literals = (literal : ℕ) → Contains literals literal → truth v literal ≡ true

-- a literal of the atom stands in the clause
pub record MentionedIn (clause : List ℕ) (atom : ℕ) : Type 0 where
  pub literal : ℕ
  pub has : Contains clause literal
  pub of_atom : literal / 2 ≡ atom

-- a literal of the atom stands in one of the clauses
pub record Mentions (clauses : List (List ℕ)) (atom : ℕ) : Type 0 where
  pub number : ℕ
  pub within : number < length clauses
  pub mentioned : MentionedIn (clause_at clauses number) atom

-- the same assignments satisfy both, and no further atom is mentioned
pub record SameMeaning (old new : List (List ℕ)) : Type 0 where
  pub forth : (v : ℕ → Bool) → SatisfiesAll v old → SatisfiesAll v new
  pub back : (v : ℕ → Bool) → SatisfiesAll v new → SatisfiesAll v old
  pub atoms : (atom : ℕ) → Mentions new atom → Mentions old atom

-- the clauses mean what the old ones and this clause mean together, and mention no further atom
pub record AddsClause (old new : List (List ℕ)) (clause : List ℕ) : Type 0 where
  pub forth : (v : ℕ → Bool) → SatisfiesAll v old → Satisfies v clause → SatisfiesAll v new
  pub back : (v : ℕ → Bool) → SatisfiesAll v new → SatisfiesAll v old
  pub satisfied : (v : ℕ → Bool) → SatisfiesAll v new → Satisfies v clause
  pub atoms : (atom : ℕ) → Mentions new atom → Mentions old atom ⊎ MentionedIn clause atom
