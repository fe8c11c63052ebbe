-- The core machine as contracts see it. All definitions are transparent.
use Rattle.std.specs.Prelude.{◌≡◌, ℕ, ◌+◌, Bool, true, false, not, ◌&&◌, nat_le, List, IsTrue}
use Rattle.asp_defs.specs.declared.faults.Kind.TheVariants.{Store as StoreKind}
use Rattle.asp_defs.specs.declared.faults.Unknown.{Unknown}
use Rattle.asp_defs.specs.declared.ground.Game.{Game}
use Rattle.asp_defs.specs.Entries.{Entry, cost}
use Rattle.asp_defs.specs.History.{is_held, cells}
use Rattle.asp_defs.specs.Laws.{IsLater}
use Rattle.asp_store.specs.Histories.{StoreState}
use Rattle.asp_defs.specs.Machine.{Member, State, Event, Look, Add, Fork, End, start, step, may_run, run}

-- the game, the cells that its entries may take, and the state
pub record MachineState : Type 0 where
  pub game : Game
  pub allowed : ℕ
  pub state : State

-- a store's game, cells and history with members
abbrev pub machine_of : StoreState → List Member → MachineState
machine_of s members = record { game = s.game; allowed = s.allowed; state = record { history = s.history; members = members } }

-- the state is reached from the start by events that may happen one after another
pub record IsReached (m : MachineState) : Type 0 where
  pub events : List Event
  pub may : IsTrue (may_run m.game m.allowed start events)
  pub reached : run m.allowed start events ≡ m.state

-- a machine after an event
abbrev pub after : MachineState → Event → MachineState
after m event = record { game = m.game; allowed = m.allowed; state = step m.allowed m.state event }

-- whether an event adds an entry whose seed isn't held, and for which the cells don't suffice
abbrev pub is_full : MachineState → Event → Bool
is_full m (Look number) = false
is_full m (Add number e) = not (is_held m.state.history e.level e.seed) && not (nat_le (cells m.state.history + cost e) m.allowed)
is_full m (Fork number) = false
is_full m (End number) = false

-- the cells don't suffice for the entry that an event adds, and it is told by its level and the cells allowed
pub record IsRefused (m : MachineState) (event : Event) (u : Unknown) : Type 0 where
  pub number : ℕ
  pub entry : Entry
  pub adds : event ≡ Add number entry
  pub full : is_full m event ≡ true
  pub unknown : u ≡ record { kind = StoreKind; level = entry.level; budget = m.allowed }

-- game and cells stay, the state is still one that events reach, and nothing is taken away
pub record IsKept (old new : MachineState) : Type 0 where
  pub game : new.game ≡ old.game
  pub allowed : new.allowed ≡ old.allowed
  pub reached : IsReached new
  pub later : IsLater old.state new.state
