-- Rows that lie in one list of words, by where each starts.
use Rattle.std.specs.Prelude.{◌≡◌, ℕ, ◌+◌, ◌-◌, ◌<◌, ◌≤◌, ◌^◌, List, length, take, drop, map, slice_index}
use Rattle.std.specs.List.{range_with_len}

-- the row from one start to the next
abbrev pub row_of : List ℕ → List ℕ → ℕ → List ℕ
row_of words starts row = take (slice_index starts (row + 1) - slice_index starts row) (drop (slice_index starts row) words)

unfoldable pub rows_of : List ℕ → List ℕ → List (List ℕ)
rows_of words starts = map (row_of words starts) (range_with_len 0 (length starts - 1))

pub record AreRows (words starts : List ℕ) : Type 0 where
  pub some : 0 < length starts
  pub few : length starts ≤ 2 ^ 32
  pub ordered : (i j : ℕ) → i ≤ j → j < length starts → slice_index starts i ≤ slice_index starts j
  pub last : slice_index starts (length starts - 1) ≡ length words
  pub small : length words < 2 ^ 32
