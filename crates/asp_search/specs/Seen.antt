-- A set of literals that are marked, in the order in which they were.
use Rattle.std.specs.Prelude.{◌≡◌, ◌≢◌, ℕ, ◌<◌, Bool, true, false, List, length, slice_index, slice_index_or}
use Rattle.std.specs.List.{Contains}

-- what contracts see of the set: how many codes there are, and the marked ones
pub record SeenSet : Type 0 where
  pub codes : ℕ
  pub marked : List ℕ

-- no code is marked twice
abbrev pub AreDistinct : List ℕ → Type 0
AreDistinct codes = (i j : ℕ) → i < j → j < length codes → slice_index codes i ≢ slice_index codes j

abbrev pub AreCodes : ℕ → List ℕ → Type 0
AreCodes limit codes = (i : ℕ) → i < length codes → slice_index codes i < limit

-- the table is true at just the listed codes
pub record IsTable (table : List Bool) (listed : List ℕ) : Type 0 where
  pub codes : AreCodes (length table) listed
  pub distinct : AreDistinct listed
  pub listed_are_true : (code : ℕ) → Contains listed code → slice_index_or table code false ≡ true
  pub true_are_listed : (code : ℕ) → code < length table → slice_index_or table code false ≡ true → Contains listed code
