-- What the fields of a team say. All definitions are transparent.
use Rattle.std.specs.Prelude.{◌≡◌, IsTrue}
use Rattle.asp_defs.specs.Games.{IsValid}
use Rattle.asp_defs.specs.History.{is_legal}
use Rattle.asp_store.specs.Shelves.{ShelfState}
use Rattle.asp_node.specs.Children.{ChildState, RestsOn}

-- the history is a legal one of the game, and who answers for the first level leaves out what it refutes
pub record IsAtWork (s : ShelfState) (c : ChildState) : Type 0 where
  pub valid : IsValid c.game
  pub game : s.game ≡ c.game
  pub level : c.level ≡ 1
  pub legal : IsTrue (is_legal s.game s.seen)
  pub rests : RestsOn s.seen c
