-- What a region is searched with: where it lies, and who searches it. All definitions are transparent.
use Rattle.std.specs.Prelude.{◌≡◌, ℕ, ◌+◌, ◌≤◌, List, Bool, length, IsTrue}
use Rattle.asp_bits.specs.Places.{true_places}
use Rattle.asp_defs.specs.declared.ground.Game.{Game}
use Rattle.asp_defs.specs.declared.ground.Lit.{Lit}
use Rattle.asp_defs.specs.Games.{IsValid, level_count}
use Rattle.asp_defs.specs.History.{is_legal}
use Rattle.asp_game.specs.State.{MovesState}
use Rattle.asp_game.specs.Questions.{is_outer, is_region}
use Rattle.asp_store.specs.Shelves.{ShelfState}
use Rattle.asp_node.specs.Children.{ChildState, RestsOn}
use Rattle.asp_node.specs.Ends.{AreRefuted}

-- a level of a valid game, an outer move of it as truth values of all atoms, and a region of it
pub record IsPlace (g : Game) (i : ℕ) (places : List Bool) (lits : List Lit) : Type 0 where
  pub valid : IsValid g
  pub first : 1 ≤ i
  pub last : i ≤ level_count g
  pub count : length places ≡ length g.bases.atoms
  pub outer : IsTrue (is_outer g i (true_places places))
  pub region : IsTrue (is_region g i lits)

-- the shelf, the moves and the child are of one game and fit together: the moves of a level, the child of the next, with one
-- budget; what the moves and the child leave out for good is refuted by what was seen
pub record FitTogether (g : Game) (i : ℕ) (s : ShelfState) (m : MovesState) (c : ChildState) : Type 0 where
  pub shelf : s.game ≡ g
  pub legal : IsTrue (is_legal g s.seen)
  pub moves : m.game ≡ g
  pub level : m.level ≡ i
  pub child : c.game ≡ g
  pub next : c.level ≡ i + 1
  pub budget : c.budget ≡ m.budget
  pub rests : RestsOn s.seen c
  pub kept : AreRefuted g i s.seen m.kept
