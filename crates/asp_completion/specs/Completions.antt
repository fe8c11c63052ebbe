-- What contracts say of the clauses of the completion.
use Rattle.std.specs.Prelude.{ℕ, ◌≡◌, ◌-◌, ◌||◌, true, false, List, [], length}
use Rattle.std.specs.List.{list_any}
use Rattle.asp_defs.specs.declared.ground.Game.{Game}
use Rattle.asp_defs.specs.declared.ground.GroundRule.{GroundRule}
use Rattle.asp_defs.specs.declared.ground.Lit.{Lit}
use Rattle.asp_defs.specs.Lists.{IsIn}
use Rattle.asp_defs.specs.Interpretations.{holds, subsets}
use Rattle.asp_defs.specs.Truth.{body_true}
use Rattle.asp_defs.specs.Games.{base, rules_of}
use Rattle.asp_defs.specs.Values.{moves}
use Rattle.asp_search.specs.State.{SearchState}
use Rattle.asp_completion.specs.declared.level.Level.{Level}
use Rattle.asp_completion.specs.Codes.{is_met}
use Rattle.asp_completion.specs.Levels.{game_at, upper, lower, rules_at}
use Rattle.asp_completion.specs.Meanings.{Means, is_named_at}
use Rattle.asp_completion.specs.Says.{Extends}
use Rattle.asp_completion.specs.Supporters.{supporters, AreFew}

-- What the clauses say that need no further atom, of an interpretation and the atoms that a base has and the base below lacks: where
-- few rules head an atom and it is true, one of their bodies is. So an atom that no rule heads is false, and where one rule heads an
-- atom, it gives that rule's body.
pub record IsCompleted (L B : List ℕ) (rules : List GroundRule) (N : List ℕ) : Type 0 where
  pub supported : (a : ℕ) → holds B a ≡ true → holds L a ≡ false → AreFew (supporters rules a) → holds N a ≡ true
      → list_any (body_true N) (supporters rules a) ≡ true

-- a search that has the clauses of the level's rules, as firm ones
pub record HasRules (l : Level) (search : SearchState) : Type 0 where
  pub atoms : search.atoms ≡ length (upper l)
  pub means : Means (game_at l) l.number (rules_at l) [] search.clauses
  pub firm : Means (game_at l) l.number (rules_at l) [] search.firm

abbrev pub Completes : Level → (List ℕ → Type 0) → SearchState → SearchState → Type 0
Completes l P old new = Extends (game_at l) l.number (rules_at l) P old new

-- one of the literals is true, or one of the bodies of some rules
abbrev pub OneIsTrue : List Lit → List GroundRule → List ℕ → Type 0
OneIsTrue lits rules N = (is_met N lits || list_any (body_true N) rules) ≡ true

-- and so it is in every move after every outer move; the literals are of the level's base, each of their atoms of the base below
-- stands in a rule or bound of the level, and the rules are the level's
pub record IsSoundChoice (g : Game) (i : ℕ) (lits : List Lit) (heading : List GroundRule) : Type 0 where
  pub one : (M N : List ℕ) → IsIn M (subsets (base g (i - 1))) → IsIn N (moves g i M) → OneIsTrue lits heading N
  pub atoms : (l : Lit) → IsIn l lits → holds (base g i) l.atom ≡ true
  pub named : (l : Lit) → IsIn l lits → holds (base g (i - 1)) l.atom ≡ true → is_named_at g i [] l.atom ≡ true
  pub members : (r : GroundRule) → IsIn r heading → IsIn r (rules_of g i)

-- what the clauses of one atom say, and those of several atoms
abbrev pub IsSupported : Level → ℕ → List ℕ → Type 0
IsSupported l a N = holds (lower l) a ≡ false → AreFew (supporters (rules_at l) a) → holds N a ≡ true
    → list_any (body_true N) (supporters (rules_at l) a) ≡ true

abbrev pub AreSupported : Level → List ℕ → List ℕ → Type 0
AreSupported l atoms N = (a : ℕ) → IsIn a atoms → IsSupported l a N
