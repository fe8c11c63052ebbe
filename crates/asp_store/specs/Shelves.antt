-- What contracts see of a store as one worker knows it: a shelf.
use Rattle.std.specs.Prelude.{◌≡◌, ℕ, zero, suc, ◌+◌, ◌-◌, ◌^◌, ◌<◌, ◌≤◌, min, true, false, List, ◌++◌, length, get_or, replicate, IsTrue}
use Rattle.asp_defs.specs.declared.faults.Kind.TheVariants.{Store as StoreKind}
use Rattle.asp_defs.specs.declared.faults.Unknown.{Unknown}
use Rattle.asp_defs.specs.declared.ground.Game.{Game}
use Rattle.asp_defs.specs.Entries.{Entry, cost}
use Rattle.asp_defs.specs.History.{is_held, is_legal, cells}
use Rattle.asp_store.specs.Histories.{StoreState, holds_at}
use Rattle.asp_store.specs.Stores.{no_entry}

-- the game, the cells, how often a look was refused, how often an addition was refused at each level from 1 on, and the history
-- as far as it was seen
pub record ShelfState : Type 0 where
  pub game : Game
  pub allowed : ℕ
  pub refused_looks : ℕ
  pub refusals : List ℕ
  pub seen : List Entry

-- how often an addition of a level was refused
abbrev pub refusals_at : ShelfState → ℕ → ℕ
refusals_at s zero = 0
refusals_at s (suc i) = get_or s.refusals i 0

-- the game and the cells stay, no count falls, and what was seen before is seen first
pub record GoesOn (old new : ShelfState) : Type 0 where
  pub game : new.game ≡ old.game
  pub allowed : new.allowed ≡ old.allowed
  pub looks : old.refused_looks ≤ new.refused_looks
  pub refusals : (level : ℕ) → refusals_at old level ≤ refusals_at new level
  pub more : List Entry
  pub prefix : new.seen ≡ old.seen ++ more
  pub legal : IsTrue (is_legal new.game new.seen)

-- an entry of a level at a position holds an interpretation
pub record IsHolding (H : List Entry) (level : ℕ) (M : List ℕ) (at : ℕ) : Type 0 where
  pub inside : at < length H
  pub holds : holds_at level M (get_or H at no_entry) ≡ true

-- an entry stands at a position
pub record StandsAt (H : List Entry) (e : Entry) (at : ℕ) : Type 0 where
  pub inside : at < length H
  pub entry : get_or H at no_entry ≡ e

-- a count rose, or stands at the end of 64 bits
abbrev pub Rose : ℕ → ℕ → Type 0
Rose before now = min (before + 1) (2 ^ 64 - 1) ≤ now

-- an addition was refused: of what was seen no entry of the level holds the seed, the cells don't suffice, and it was counted
pub record IsRefused (old new : ShelfState) (e : Entry) (u : Unknown) : Type 0 where
  pub fresh : is_held new.seen e.level e.seed ≡ false
  pub exceeds : new.allowed < cells new.seen + cost e
  pub unknown : u ≡ record { kind = StoreKind; level = e.level; budget = new.allowed }
  pub rose : Rose (refusals_at old e.level) (refusals_at new e.level)

-- a store of which all was seen, where no look was refused
abbrev pub own_of : StoreState → List ℕ → ShelfState
own_of s refusals = record { game = s.game; allowed = s.allowed; refused_looks = 0; refusals = refusals; seen = s.history }

-- and no addition either
abbrev pub opened : StoreState → ShelfState
opened s = own_of s (replicate 17 0)

-- the store of which all was seen
abbrev pub store_of : ShelfState → StoreState
store_of s = record { game = s.game; allowed = s.allowed; history = s.seen }
