-- A game's history as a store keeps it, and where an interpretation is held in it. All definitions are transparent.
use Rattle.std.specs.Prelude.{ℕ, suc, Bool, ◌==◌, ◌&&◌, if◌then◌else◌, List, [], ◌∷◌, ◌++◌, Option}
use Rattle.std.specs.List.{position}
use Rattle.asp_defs.specs.declared.ground.Game.{Game}
use Rattle.asp_defs.specs.Entries.{Entry, cube_holds}

-- the game, the cells that its entries may take, and the history
pub record StoreState : Type 0 where
  pub game : Game
  pub allowed : ℕ
  pub history : List Entry

-- whether an entry is one of a level and holds an interpretation
abbrev pub holds_at : ℕ → List ℕ → Entry → Bool
holds_at level M e = (e.level == level) && cube_holds e.cube M

-- the position of the first entry of a level that holds an interpretation
abbrev pub first_held : List Entry → ℕ → List ℕ → Option ℕ
first_held H level M = position (holds_at level M) H

-- the history with one more entry
abbrev pub with_entry : StoreState → Entry → StoreState
with_entry s e = record s { history = s.history ++ e ∷ [] }

-- the positions of the entries of a level, where the first entry has this position
abbrev pub positions_from : ℕ → ℕ → List Entry → List ℕ
positions_from at level [] = []
positions_from at level (e ∷ more) =
    if e.level == level then at ∷ positions_from (suc at) level more else positions_from (suc at) level more

abbrev pub positions : List Entry → ℕ → List ℕ
positions H level = positions_from 0 level H
