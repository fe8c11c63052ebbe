-- Places of atoms, and marks on them. All definitions are transparent.
use Rattle.std.specs.Prelude.{ℕ, ◌≡◌, Bool, ◌&&◌, ◌||◌, List, length}
use Rattle.asp_bits.specs.Places.{true_places}
use Rattle.asp_defs.specs.Interpretations.{holds}

-- values are true at the places of these atoms alone
pub record IsPlaces (atoms : List ℕ) (count : ℕ) (values : List Bool) : Type 0 where
  pub as_many : length values ≡ count
  pub each : (a : ℕ) → holds (true_places values) a ≡ holds atoms a

-- those of the atoms that pass a test were marked beside the marks before
pub record Marks (test : ℕ → Bool) (atoms : List ℕ) (before now : List Bool) : Type 0 where
  pub as_many : length now ≡ length before
  pub each : (a : ℕ) → holds (true_places now) a ≡ (holds (true_places before) a || (test a && holds atoms a))
