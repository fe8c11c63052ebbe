-- What holds of the core machine after every list of events.
use Rattle.std.specs.Prelude.{◌≡◌, ℕ, true, List, ◌++◌}
use Rattle.std.specs.List.{list_all}
use Rattle.asp_defs.specs.declared.ground.Game.{Game}
use Rattle.asp_defs.specs.History.{is_sound}
use Rattle.asp_defs.specs.Laws.{IsOrderly, IsLater}
use Rattle.asp_defs.specs.Machine.{Event, start, may_run, run}

-- after every list of events the state is orderly and each entry is sound
abbrev pub RunsStaySound : Type 0
RunsStaySound =
    (g : Game) (allowed : ℕ) (events : List Event) → may_run g allowed start events ≡ true
    → IsOrderly g allowed (run allowed start events) × (list_all (is_sound g) (run allowed start events).history ≡ true)

-- with further events the state is a later one
abbrev pub RunsOnlyGrow : Type 0
RunsOnlyGrow =
    (g : Game) (allowed : ℕ) (events more : List Event) → may_run g allowed start (events ++ more) ≡ true
    → IsLater (run allowed start events) (run allowed start (events ++ more))
