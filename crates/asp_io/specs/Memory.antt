-- What contracts see of the sources and the sink in memory.
use Rattle.std.specs.Prelude.{ℕ, ◌+◌, ◌-◌, ◌^◌, min, List, Bool, if◌then◌else◌}

-- bytes that are given out from the front, at most `most` at a time
pub record SupplyState : Type 0 where
  pub left : List ℕ
  pub most : ℕ

-- the numbers of the calls that fail, and how many calls there were and how many of them failed
pub record CallsState : Type 0 where
  pub failing : List ℕ
  pub made : ℕ
  pub faults : ℕ

-- the bytes that are left, the most that a call gives, and the calls so far
pub record SourceState : Type 0 where
  pub left : List ℕ
  pub most : ℕ
  pub calls : CallsState

-- the bytes that were taken, the room for all of them, the most that a call takes, and the calls so far
pub record SinkState : Type 0 where
  pub taken : List ℕ
  pub room : ℕ
  pub most : ℕ
  pub calls : CallsState

-- a count in 64 bits, one further
abbrev pub next_count : ℕ → ℕ
next_count n = min (n + 1) (2 ^ 64 - 1)

-- the calls so far and one more, which may have failed
abbrev pub one_more : CallsState → Bool → CallsState
one_more calls failed = record {
  failing = calls.failing;
  made = next_count calls.made;
  faults = if failed then next_count calls.faults else calls.faults;
}

-- how many bytes a call moves, of those that are there, into the room for them, at most so many
abbrev pub moved_count : ℕ → ℕ → ℕ → ℕ
moved_count there room most = min (min there room) most
