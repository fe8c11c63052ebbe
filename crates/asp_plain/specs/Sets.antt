-- Masks as lists of truth values. All definitions are transparent.
use Rattle.std.specs.Prelude.{◌==◌, ℕ, Bool, List, map}
use Rattle.std.specs.List.{range_with_len}
use Rattle.std.specs.Int.{bit_at}

-- the truth values of the first so many atoms
abbrev pub values_of : ℕ → ℕ → List Bool
values_of count mask = map (λ a. bit_at mask a == 1) (range_with_len 0 count)
