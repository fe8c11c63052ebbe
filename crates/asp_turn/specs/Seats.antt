-- What a clause says of a seat and of its turn.
use Rattle.std.specs.Prelude.{◌≡◌, ℕ, List, Option, Some, None}
use Rattle.asp_turn.specs.declared.kept.Kept.{Ghosts}
use Rattle.asp_turn.specs.declared.seat.Seat.{Seat}
use Rattle.asp_turn.specs.declared.turn.Turn.{Turn}

-- the world that the turn was made for
abbrev pub world_of_turn : {V W I : Type 0} → (V → W) → Turn V W I → W
world_of_turn world turn = world turn.table.shared.key.value

module _ {V W I : Type 0} {g : Ghosts V W I} where
  abbrev pub IsSeatOf : Turn V W I → Seat V W I g → Type 0
  IsSeatOf turn seat = seat.place.table_id ≡ turn.table.shared.table_id

  abbrev pub StandsFor : Seat V W I g → W → Type 0
  StandsFor seat world = seat.place.me.0.world ≡ Some world

  abbrev pub world_of : Seat V W I g → Option W
  world_of seat = seat.place.me.0.world

  -- the story as far as the seat has seen it
  abbrev pub seen_by : Seat V W I g → List I
  seen_by seat = seat.place.me.0.seen

  abbrev pub refused_takes : Seat V W I g → ℕ
  refused_takes seat = seat.place.me.0.refused

  -- while the seat holds the value, the story with which it took it
  abbrev pub taken_story : Seat V W I g → Option (List I)
  taken_story seat = seat.place.me.0.taken

  abbrev pub HoldsNothing : Seat V W I g → Type 0
  HoldsNothing seat = seat.place.me.0.taken ≡ None
