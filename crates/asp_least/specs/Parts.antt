-- Parts of what is left. All definitions are transparent.
use Rattle.std.specs.Prelude.{ℕ, ◌≡◌, Bool, true, List, length}
use Rattle.asp_bits.specs.Places.{true_places}
use Rattle.asp_defs.specs.Interpretations.{holds}

-- as many places, of which those are true alone that are left
pub record IsPartOf (left small : List Bool) : Type 0 where
  pub as_many : length small ≡ length left
  pub inside : (a : ℕ) → holds (true_places small) a ≡ true → holds (true_places left) a ≡ true
