-- The heap of atoms from which the next decision is taken: contracts see how many atoms there are, how many wait, and the value
-- that each had last.
use Rattle.std.specs.Prelude.{◌≡◌, ℕ, ◌<◌, ◌≤◌, Bool, List, length, slice_index}
use Rattle.asp_clauses.specs.Literal.{most_atoms}

pub record HeapState : Type 0 where
  pub atoms : ℕ
  pub waiting : ℕ
  pub phases : List Bool

-- each of them is below the limit
abbrev pub AreAtoms : ℕ → List ℕ → Type 0
AreAtoms limit atoms = (i : ℕ) → i < length atoms → slice_index atoms i < limit

-- tables of one size, and atoms in the heap
pub record IsHeap (activities heap : List ℕ) (waiting : ℕ) (places : List ℕ) (phases : List Bool) : Type 0 where
  pub few : length activities ≤ most_atoms
  pub heap_size : length heap ≡ length activities
  pub places_size : length places ≡ length activities
  pub phases_size : length phases ≡ length activities
  pub wait : waiting ≤ length activities
  pub atoms : AreAtoms (length places) heap
