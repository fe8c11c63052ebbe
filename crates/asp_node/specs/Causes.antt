-- Why a question stays open: a search spent its budget, or the store its cells. All definitions are transparent.
use Rattle.std.specs.Prelude.{◌≡◌, ◌≢◌, ℕ, ◌+◌, ◌-◌, ◌*◌, ◌<◌, ◌≤◌, ◌⊎◌}
use Rattle.asp_defs.specs.declared.faults.Kind.TheVariants.{Store}
use Rattle.asp_defs.specs.declared.faults.Unknown.{Unknown}
use Rattle.asp_defs.specs.Games.{level_count, base_size}
use Rattle.asp_defs.specs.History.{cells}
use Rattle.asp_defs.specs.Unknowns.{enough_placements, enough_cells}
use Rattle.asp_game.specs.State.{MovesState}
use Rattle.asp_game.specs.Answers.{IsSpent, Rose}
use Rattle.asp_store.specs.Shelves.{ShelfState, refusals_at}
use Rattle.asp_node.specs.Children.{ChildState, count_at}

-- a search of one of the game's levels spent its budget, which isn't enough for all of them
pub record IsSearchSpent (old new : ChildState) (u : Unknown) : Type 0 where
  pub kind : u.kind ≢ Store
  pub first : 1 ≤ u.level
  pub last : u.level ≤ level_count old.game
  pub budget : u.budget ≡ old.budget
  pub few : old.budget < enough_placements old.game u.level
  pub place : ℕ
  pub behind : u.level ≡ old.level + place
  pub rose : Rose (count_at old u.kind place) (count_at new u.kind place)

-- the cells didn't suffice for an entry of one of the game's levels, and they aren't enough for all of them
pub record IsStoreSpent (old new : ShelfState) (u : Unknown) : Type 0 where
  pub kind : u.kind ≡ Store
  pub first : 1 ≤ u.level
  pub last : u.level ≤ level_count new.game + 1
  pub budget : u.budget ≡ new.allowed
  pub exceeds : new.allowed < cells new.seen + (1 + 2 * base_size new.game (u.level - 1))
  pub few : new.allowed < enough_cells new.game
  pub rose : Rose (refusals_at old u.level) (refusals_at new u.level)

-- why a question to a child stays open
abbrev pub IsAskSpent : ShelfState → ShelfState → ChildState → ChildState → Unknown → Type 0
IsAskSpent before after old new u = IsSearchSpent old new u ⊎ IsStoreSpent before after u

-- why a region stays open: by its own searches, or for a reason of the child
abbrev pub IsRegionSpent : ShelfState → ShelfState → MovesState → MovesState → ChildState → ChildState → Unknown → Type 0
IsRegionSpent before after own_old own_new old new u = IsSpent own_old own_new u ⊎ IsAskSpent before after old new u
