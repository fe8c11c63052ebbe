-- What stays while a region is searched, and what gets less. All definitions are transparent.
use Rattle.std.specs.Prelude.{◌≡◌, ◌≢◌, ℕ, ◌+◌, ◌≤◌, true, List, [], length}
use Rattle.std.specs.List.{filter}
use Rattle.asp_defs.specs.declared.ground.Game.{Game}
use Rattle.asp_defs.specs.declared.ground.Lit.{Lit}
use Rattle.asp_defs.specs.Lists.{IsIn}
use Rattle.asp_defs.specs.Values.{moves}
use Rattle.asp_defs.specs.Entries.{Entry, cube_holds}
use Rattle.asp_game.specs.State.{MovesState, Unasked}
use Rattle.asp_game.specs.Questions.{is_open}
use Rattle.asp_store.specs.Shelves.{ShelfState, GoesOn}
use Rattle.asp_node.specs.Children.{ChildState, ChildGoesOn}
use Rattle.asp_node.specs.Ends.{winning_at}
use Rattle.asp_node.specs.Places.{FitTogether}

-- the game, the level and the budget stay, and no count falls
pub record MovesGoOn (old new : MovesState) : Type 0 where
  pub game : new.game ≡ old.game
  pub level : new.level ≡ old.level
  pub budget : new.budget ≡ old.budget
  pub searches : old.searches ≤ new.searches
  pub checks : old.checks ≤ new.checks

-- shelf, moves and child went on, and still fit together
pub record Advances (g : Game) (i : ℕ) (s s' : ShelfState) (m m' : MovesState) (c c' : ChildState) : Type 0 where
  pub shelf : GoesOn s s'
  pub moves : MovesGoOn m m'
  pub child : ChildGoesOn c c'
  pub fit : FitTogether g i s' m' c'

-- the moves after an outer move in a region were asked for, and none was blocked since
pub record IsAskedFor (s : MovesState) (M : List ℕ) (lits : List Lit) : Type 0 where
  pub begun : s.last ≢ Unasked
  pub outer : s.outer ≡ M
  pub region : s.region ≡ lits
  pub blocked : s.blocked ≡ []

-- how many moves after an outer move are in a region and not left out for good
abbrev pub open_count : MovesState → List ℕ → List Lit → ℕ
open_count s outer region = length (filter (is_open region s.kept) (moves s.game s.level outer))

-- an entry that was seen, of the next level with the winning verdict, which holds a move
pub record IsWon (g : Game) (i : ℕ) (seen : List Entry) (N : List ℕ) (e : Entry) : Type 0 where
  pub member : IsIn e seen
  pub level : e.level ≡ i + 1
  pub verdict : e.verdict ≡ winning_at g i
  pub holds : cube_holds e.cube N ≡ true
