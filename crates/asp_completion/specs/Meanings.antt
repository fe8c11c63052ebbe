-- What the clauses of a search for the moves of a level say, where it has an atom for each atom of the level's base.
use Rattle.std.specs.Prelude.{ℕ, ◌≡◌, ◌≢◌, ◌-◌, ◌<◌, Bool, true, false, ◌||◌, ◌==◌, List, [], length, get_or}
use Rattle.std.specs.List.{list_any}
use Rattle.asp_defs.specs.declared.ground.Game.{Game}
use Rattle.asp_defs.specs.declared.ground.GroundRule.{GroundRule}
use Rattle.asp_defs.specs.declared.ground.Lit.{Lit}
use Rattle.asp_defs.specs.Lists.{IsIn}
use Rattle.asp_defs.specs.Interpretations.{holds, subsets}
use Rattle.asp_defs.specs.Truth.{is_model}
use Rattle.asp_defs.specs.Games.{base}
use Rattle.asp_defs.specs.Entries.{stands_at}
use Rattle.asp_defs.specs.Values.{moves}
use Rattle.asp_search.specs.declared.stage.Stage.TheVariants.{New}
use Rattle.asp_search.specs.Meaning.{SatisfiesAll, Mentions, AddsClause}
use Rattle.asp_search.specs.State.{SearchState, Adds}
use Rattle.asp_game.specs.Questions.{is_outside}
use Rattle.asp_completion.specs.Codes.{codes, rule_literals, Agrees, is_met}

-- whether an atom stands in a rule or bound of a level, or in one of the blocked cubes
abbrev pub is_named_at : Game → ℕ → List (List Lit) → ℕ → Bool
is_named_at g i blocked a = stands_at g i a || list_any (λ cube. list_any (λ l. l.atom == a) cube) blocked

-- The clauses hold in every move after every outer move, outside the blocked cubes; what satisfies them is a model of
-- the rules and outside the cubes; each atom of the base below that stands in one of them stands in a rule or bound of
-- the level or in a cube; and each of their atoms is one of the level's base.
pub record Means (g : Game) (i : ℕ) (rules : List GroundRule) (blocked : List (List Lit)) (clauses : List (List ℕ)) : Type 0 where
  pub sound : (M N : List ℕ) (v : ℕ → Bool) → IsIn M (subsets (base g (i - 1))) → IsIn N (moves g i M)
      → is_outside blocked N ≡ true → Agrees (base g i) v N → SatisfiesAll v clauses
  pub models : (v : ℕ → Bool) (N : List ℕ) → Agrees (base g i) v N → SatisfiesAll v clauses → is_model N rules ≡ true
  pub outside : (v : ℕ → Bool) (N : List ℕ) → Agrees (base g i) v N → SatisfiesAll v clauses → is_outside blocked N ≡ true
  pub named : (k : ℕ) → Mentions clauses k → holds (base g (i - 1)) (get_or (base g i) k 0) ≡ true
      → is_named_at g i blocked (get_or (base g i) k 0) ≡ true
  pub range : (k : ℕ) → Mentions clauses k → k < length (base g i)

-- literals of the level's base, one of which is true in every move after every outer move, outside the blocked cubes;
-- each of their atoms of the base below stands in a rule or bound of the level or in a cube
pub record IsSoundClause (g : Game) (i : ℕ) (blocked : List (List Lit)) (lits : List Lit) : Type 0 where
  pub met : (M N : List ℕ) → IsIn M (subsets (base g (i - 1))) → IsIn N (moves g i M) → is_outside blocked N ≡ true
      → is_met N lits ≡ true
  pub atoms : (l : Lit) → IsIn l lits → holds (base g i) l.atom ≡ true
  pub named : (l : Lit) → IsIn l lits → holds (base g (i - 1)) l.atom ≡ true
      → is_named_at g i blocked l.atom ≡ true

-- the clause of a rule is added, and none for a choice
pub record HasRule (B : List ℕ) (r : GroundRule) (old new : SearchState) : Type 0 where
  pub choice : r.choice ≡ true → new ≡ old
  pub plain : r.choice ≡ false → Adds old new (codes B (rule_literals r))

-- a search over the same atoms and with the same budget, whose clauses, all of them firm, say that these rules of the level are
-- satisfied
pub record IsFilled (g : Game) (i : ℕ) (rules : List GroundRule) (old new : SearchState) : Type 0 where
  pub atoms : new.atoms ≡ old.atoms
  pub budget : new.budget ≡ old.budget
  pub means : Means g i rules [] new.clauses
  pub firm : Means g i rules [] new.firm

-- a search with a further firm clause; the trail and the counts are as before
pub record AddsTo (old new : SearchState) (clause : List ℕ) : Type 0 where
  pub clauses : AddsClause old.clauses new.clauses clause
  pub firm : AddsClause old.firm new.firm clause
  pub atoms : new.atoms ≡ old.atoms
  pub budget : new.budget ≡ old.budget
  pub assumed : new.assumed ≡ old.assumed
  pub count : new.count ≡ old.count
  pub trail : new.trail ≡ old.trail
  pub ordered : new.ordered ≡ old.ordered
  pub begun : old.stage ≢ New → new.stage ≢ New

-- a search with a further loose clause
pub record AddsLooselyTo (old new : SearchState) (clause : List ℕ) : Type 0 where
  pub clauses : AddsClause old.clauses new.clauses clause
  pub firm : new.firm ≡ old.firm
  pub atoms : new.atoms ≡ old.atoms
  pub budget : new.budget ≡ old.budget
  pub assumed : new.assumed ≡ old.assumed
  pub count : new.count ≡ old.count
  pub trail : new.trail ≡ old.trail
  pub ordered : new.ordered ≡ old.ordered
  pub begun : old.stage ≢ New → new.stage ≢ New
