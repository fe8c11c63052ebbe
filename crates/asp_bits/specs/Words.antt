-- truth values packed into 64-bit words: place p is bit p % 64 of word p / 64, the lowest bit being 0
use Rattle.std.specs.Prelude.{◌≡◌, ◌≢◌, ℕ, ◌+◌, ◌*◌, ◌/◌, ◌%◌, ◌<◌, ◌≤◌, Bool, ◌==◌, List, length, map, slice_index}
use Rattle.std.specs.List.{range_with_len}
use Rattle.std.specs.Int.{bit_at}

-- the bit at a place, 0 or 1
abbrev pub packed_bit : List ℕ → ℕ → ℕ
packed_bit words place = bit_at (slice_index words (place / 64)) (place % 64)

-- the first `len` bits, as truth values
abbrev pub truth_values : List ℕ → ℕ → List Bool
truth_values words len = map (λ place. packed_bit words place == 1) (range_with_len 0 len)

-- as many words as `len` places need, and no bit of the last word past them
pub record IsPacked (words : List ℕ) (len : ℕ) : Type 0 where
  pub size : length words ≡ (len + 63) / 64
  pub clear : (place : ℕ) → len ≤ place → place < 64 * length words → packed_bit words place ≡ 0

-- the words differ, and at the lowest bit on which they do the first has 0
pub record WordComesBefore (first second : ℕ) : Type 0 where
  pub bit : ℕ
  pub within : bit < 64
  pub agree : (k : ℕ) → k < bit → bit_at first k ≡ bit_at second k
  pub zero : bit_at first bit ≡ 0
  pub one : bit_at second bit ≡ 1

-- a word with one bit set to a truth value, and every other bit as it was
pub record SetsBit (word changed bit : ℕ) (value : Bool) : Type 0 where
  pub same : (bit_at changed bit == 1) ≡ value
  pub others : (k : ℕ) → k < 64 → k ≢ bit → bit_at changed k ≡ bit_at word k
