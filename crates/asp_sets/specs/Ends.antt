-- What stands before the end of a text. All definitions are transparent.
use Rattle.std.specs.Prelude.{ℕ, ◌≡◌, List, ◌++◌, Option, Some, None}

-- what stands before an end, where the text ends so, and nothing where it doesn't
abbrev pub IsBefore : List ℕ → List ℕ → Option (List ℕ) → Type 0
IsBefore text end (Some before) = before ++ end ≡ text
IsBefore text end None = (before : List ℕ) → before ++ end ≡ text → ⊥
