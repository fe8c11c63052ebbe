-- Answers that stay open since a budget was spent, and which of them are possible for a run (of this project). All
-- definitions are transparent.
use Rattle.std.specs.Prelude.{ℕ, ◌+◌, ◌-◌, ◌*◌, ◌^◌, Bool, ◌==◌, ◌&&◌, nat_lt, nat_le}
use Rattle.std.specs.List.{sum_by}
use Rattle.asp_defs.specs.declared.faults.Kind.{Kind}
use Rattle.asp_defs.specs.declared.faults.Kind.TheVariants.{Search, Minimal, Store}
use Rattle.asp_defs.specs.declared.faults.Unknown.{Unknown}
use Rattle.asp_defs.specs.declared.ground.Game.{Game}
use Rattle.asp_defs.specs.Games.{level_count, base_size}
use Rattle.asp_defs.specs.Lists.{numbers_from}

-- the placements with which a search of a level always ends
abbrev pub enough_placements : Game → ℕ → ℕ
enough_placements g level = 3 ^ base_size g level

-- the cells that entries of a level take at most, with a seed each
abbrev pub level_cells : Game → ℕ → ℕ
level_cells g level = 2 ^ base_size g (level - 1) * (1 + 2 * base_size g (level - 1))

-- the cells with which a store never refuses an entry
abbrev pub enough_cells : Game → ℕ
enough_cells g = sum_by (level_cells g) (numbers_from 1 (level_count g + 1))

-- whether an open answer is possible for a run with this budget of placements and these cells
abbrev pub possible_kind : Game → ℕ → ℕ → Kind → ℕ → ℕ → Bool
possible_kind g budget allowed Search level number =
    (nat_le 1 level && nat_le level (level_count g)) && ((number == budget) && nat_lt budget (enough_placements g level))
possible_kind g budget allowed Minimal level number =
    (nat_le 1 level && nat_le level (level_count g)) && ((number == budget) && nat_lt budget (enough_placements g level))
possible_kind g budget allowed Store level number =
    (nat_le 1 level && nat_le level (level_count g + 1)) && ((number == allowed) && nat_lt allowed (enough_cells g))

abbrev pub is_possible : Game → ℕ → ℕ → Unknown → Bool
is_possible g budget allowed u = possible_kind g budget allowed u.kind u.level u.budget
