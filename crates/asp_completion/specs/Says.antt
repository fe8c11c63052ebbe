-- What further clauses of a search say, exactly: nothing of what the old ones say is lost, and nothing else is said.
use Rattle.std.specs.Prelude.{ℕ, ◌≡◌, Bool, List, []}
use Rattle.asp_defs.specs.declared.ground.Game.{Game}
use Rattle.asp_defs.specs.declared.ground.GroundRule.{GroundRule}
use Rattle.asp_defs.specs.Games.{base}
use Rattle.asp_search.specs.Meaning.{SatisfiesAll}
use Rattle.asp_search.specs.State.{SearchState}
use Rattle.asp_completion.specs.Codes.{Agrees}
use Rattle.asp_completion.specs.Meanings.{Means}

-- an assignment satisfies the new clauses exactly where it satisfies the old ones and its interpretation has a property
pub record SaysAlso (B : List ℕ) (P : List ℕ → Type 0) (old new : List (List ℕ)) : Type 0 where
  pub back : (v : ℕ → Bool) → SatisfiesAll v new → SatisfiesAll v old
  pub says : (v : ℕ → Bool) (N : List ℕ) → Agrees B v N → SatisfiesAll v new → P N
  pub forth : (v : ℕ → Bool) (N : List ℕ) → Agrees B v N → SatisfiesAll v old → P N → SatisfiesAll v new

-- a search over the same atoms and with the same budget, whose clauses, all of them firm, say that the interpretation has a property
-- beside what the old ones say; they hold in every move, and say that these rules of the level are satisfied
pub record Extends (g : Game) (i : ℕ) (rules : List GroundRule) (P : List ℕ → Type 0) (old new : SearchState) : Type 0 where
  pub atoms : new.atoms ≡ old.atoms
  pub budget : new.budget ≡ old.budget
  pub means : Means g i rules [] new.clauses
  pub firm : Means g i rules [] new.firm
  pub says : SaysAlso (base g i) P old.clauses new.clauses
  pub says_firm : SaysAlso (base g i) P old.firm new.firm
