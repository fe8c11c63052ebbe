-- What the clauses of a search for a smaller model say. All definitions are transparent.
use Rattle.std.specs.Prelude.{ℕ, ◌+◌, ◌*◌, ◌≡◌, Bool, true, false, not, ◌&&◌, ◌||◌, List, [], ◌∷◌, ◌++◌, Option, Some, None}
use Rattle.std.specs.List.{list_any, list_all, flat_map}
use Rattle.asp_defs.specs.declared.ground.GroundRule.{GroundRule}
use Rattle.asp_defs.specs.Interpretations.{holds}
use Rattle.asp_defs.specs.Truth.{body_true}
use Rattle.asp_search.specs.declared.stage.Stage.TheVariants.{Begun}
use Rattle.asp_search.specs.Meaning.{SatisfiesAll}
use Rattle.asp_search.specs.State.{SearchState}
use Rattle.asp_minimal.specs.Numbers.{number_at, leaves, remains}

-- the literal of a number, or its negation
abbrev pub literal_of : Bool → ℕ → ℕ
literal_of true n = 2 * n + 1
literal_of false n = 2 * n

-- the literal of an atom that has a number
abbrev pub literals_of : Bool → Option ℕ → List ℕ
literals_of positive None = []
literals_of positive (Some n) = literal_of positive n ∷ []

-- the literals of those of the atoms that have numbers
abbrev pub literals_at : Bool → List (Option ℕ) → List ℕ → List ℕ
literals_at positive numbers atoms = flat_map (λ a. literals_of positive (number_at numbers a)) atoms

-- the clause of a rule: an atom of the positive body leaves, or one of the head stays
abbrev pub clause_of : List (Option ℕ) → GroundRule → List ℕ
clause_of numbers r = literals_at false numbers r.pos ++ literals_at true numbers r.head

-- whether each true one of the atoms is in a part of the interpretation
abbrev pub is_closed : List ℕ → List ℕ → List ℕ → Bool
is_closed I K atoms = list_all (λ a. not (holds I a && not (holds K a))) atoms

-- whether a rule could support what leaves: its body is true, an atom of its head is, and all such atoms of its head are
-- among those that may leave
abbrev pub binds : List ℕ → List ℕ → GroundRule → Bool
binds I K r = body_true I r && (list_any (holds I) r.head && is_closed I K r.head)

-- whether a rule, where it could support what leaves, doesn't
abbrev pub allows : List ℕ → List ℕ → List (Option ℕ) → (ℕ → Bool) → GroundRule → Bool
allows I K numbers v r =
    not (binds I K r)
    || (list_any (λ a. leaves v (number_at numbers a)) r.pos || list_any (λ a. remains v (number_at numbers a)) r.head)

-- a search without assumptions that has begun
pub record HasBegun (search : SearchState) : Type 0 where
  pub stage : search.stage ≡ Begun
  pub assumed : search.assumed ≡ []
  pub ordered : search.ordered ≡ None

-- the clauses mean what the old ones and a test of assignments mean together, over the same atoms and with the same budget; a
-- search that had begun still has
pub record Demands (old new : SearchState) (test : (ℕ → Bool) → Bool) : Type 0 where
  pub forth : (v : ℕ → Bool) → SatisfiesAll v old.clauses → test v ≡ true → SatisfiesAll v new.clauses
  pub back : (v : ℕ → Bool) → SatisfiesAll v new.clauses → SatisfiesAll v old.clauses
  pub met : (v : ℕ → Bool) → SatisfiesAll v new.clauses → test v ≡ true
  pub atoms : new.atoms ≡ old.atoms
  pub budget : new.budget ≡ old.budget
  pub begun : HasBegun old → HasBegun new
