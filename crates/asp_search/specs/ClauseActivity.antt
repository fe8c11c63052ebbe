-- What tells which learned clauses are dropped: contracts see how many conflicts taught a clause, and the interval.
use Rattle.std.specs.Prelude.{ℕ, ◌≤◌}

-- `total` is how many conflicts taught a clause, `interval` after how many learned clauses are dropped next
pub record ActivityState : Type 0 where
  pub total : ℕ
  pub interval : ℕ

-- no conflict is forgotten, and the interval gets no shorter
pub record IsLater (old new : ActivityState) : Type 0 where
  pub total : old.total ≤ new.total
  pub interval : old.interval ≤ new.interval
