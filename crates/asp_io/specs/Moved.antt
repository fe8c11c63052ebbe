-- Which bytes were moved, where the source or the sink tells its bytes.
use Rattle.std.specs.Prelude.{◌≡◌, ℕ, List, take, drop, Option, None, Some, ⊤}
use Rattle.std.specs.Io.KnownBytes.{Consumes, Appends}

-- the first `most` of the bytes were taken, or all where there are fewer, and the rest is left
abbrev pub TakesFirst : Option (List ℕ) → Option (List ℕ) → ℕ → List ℕ → Type 0
TakesFirst None now most taken = ⊤
TakesFirst (Some bytes) None most taken = ⊥
TakesFirst (Some bytes) (Some rest) most taken = (taken ≡ take most bytes) × (rest ≡ drop most bytes)

-- what is left is an end of what was left before
abbrev pub LosesFront : Option (List ℕ) → Option (List ℕ) → Type 0
LosesFront before now = (front : List ℕ) × Consumes before now front

-- the sink grew by the first `count` of the bytes, for some count
abbrev pub AppendsPrefix : Option (List ℕ) → Option (List ℕ) → List ℕ → Type 0
AppendsPrefix before now bytes = (count : ℕ) × Appends before now (take count bytes)
