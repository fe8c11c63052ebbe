-- The core machine: members that share one history, each of which has seen a prefix of it (of this project). All
-- definitions are transparent.
use Rattle.std.specs.Prelude.{ℕ, ◌+◌, Bool, true, false, ◌&&◌, nat_le, if◌then◌else◌, List, [], ◌∷◌, ◌++◌, length, take, get_or, set}
use Rattle.asp_defs.specs.declared.ground.Game.{Game}
use Rattle.asp_defs.specs.Entries.{Entry, is_entry, cost}
use Rattle.asp_defs.specs.History.{is_held, is_justified, cells}

-- a member: whether it lives, and how long a prefix of the history it has seen
pub record Member : Type 0 where
  pub lives : Bool
  pub seen : ℕ

-- a state: the history, and the members by their numbers
pub record State : Type 0 where
  pub history : List Entry
  pub members : List Member

-- what one member does
pub data Event : Type 0 where
  Look : ℕ → Event
  Add : ℕ → Entry → Event
  Fork : ℕ → Event
  End : ℕ → Event

-- the empty history with one member, which lives and has seen nothing
abbrev pub start : State
start = record { history = []; members = record { lives = true; seen = 0 } ∷ [] }

-- a member by its number; one that was never made doesn't live
abbrev pub member : State → ℕ → Member
member s m = get_or s.members m (record { lives = false; seen = 0 })

-- whether a member's event may happen: the member lives, and an added entry is formed and justified by what it has seen
abbrev pub may_happen : Game → State → Event → Bool
may_happen g s (Look m) = (member s m).lives
may_happen g s (Add m e) =
    (member s m).lives && (is_entry g e && is_justified g (take (member s m).seen s.history) e)
may_happen g s (Fork m) = (member s m).lives
may_happen g s (End m) = (member s m).lives

-- the state after a member has seen the whole history
abbrev pub looked : State → ℕ → State
looked s m = record {
  history = s.history;
  members = set s.members m (record { lives = (member s m).lives; seen = length s.history });
}

-- the state after an entry was appended and its member has seen it
abbrev pub appended : State → ℕ → Entry → State
appended s m e = looked (record { history = s.history ++ (e ∷ []); members = s.members }) m

-- the state after an event: a look sees all; an addition only looks where its seed is held, is refused where the cells
-- don't suffice, and else appends; a fork makes a member that has seen as much; an end lets a member live no longer
abbrev pub step : ℕ → State → Event → State
step allowed s (Look m) = looked s m
step allowed s (Add m e) =
    if is_held s.history e.level e.seed then looked s m
    else if nat_le (cells s.history + cost e) allowed then appended s m e else s
step allowed s (Fork m) = record {
  history = s.history;
  members = s.members ++ (record { lives = true; seen = (member s m).seen } ∷ []);
}
step allowed s (End m) = record {
  history = s.history;
  members = set s.members m (record { lives = false; seen = (member s m).seen });
}

-- whether events may happen one after another, and the state after them
abbrev pub may_run : Game → ℕ → State → List Event → Bool
may_run g allowed s [] = true
may_run g allowed s (event ∷ events) = may_happen g s event && may_run g allowed (step allowed s event) events

abbrev pub run : ℕ → State → List Event → State
run allowed s [] = s
run allowed s (event ∷ events) = run allowed (step allowed s event) events
