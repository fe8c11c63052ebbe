-- the order of two lists of truth values of one length: at the first place on which they differ, falsity comes first
use Rattle.std.specs.Prelude.{◌≡◌, ℕ, ◌<◌, Bool, true, false, List, Some}
use Rattle.std.specs.List.{slice_get}

-- the lists agree before some place, where the first is false and the second is true
pub record ComesBefore (first second : List Bool) : Type 0 where
  pub place : ℕ
  pub agree : (k : ℕ) → k < place → slice_get first k ≡ slice_get second k
  pub falsity : slice_get first place ≡ Some false
  pub truth : slice_get second place ≡ Some true
