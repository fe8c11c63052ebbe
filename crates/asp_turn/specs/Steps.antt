-- What becomes of a seat's view at a step, and what the step tells.
use Rattle.std.specs.Prelude.{◌≡◌, ◌≢◌, ℕ, ◌+◌, List, [], ◌∷◌, length, nat_lt, if◌then◌else◌, Option, Some, None, IfSome}
use mathlib.Core.List.{IsPrefix}
use Rattle.atomic_table.specs.Table.{Me, Step}
use Rattle.asp_turn.specs.declared.view.View.{View}

-- the longer of two lists: the first, where they are as long
abbrev pub longer : {I : Type 0} → List I → List I → List I
longer xs ys = if nat_lt (length xs) (length ys) then ys else xs

-- the other one
abbrev pub shorter : {I : Type 0} → List I → List I → List I
shorter xs ys = if nat_lt (length xs) (length ys) then xs else ys

module _ {W I : Type 0} where
  -- a seat that holds nothing and was never refused
  abbrev pub seated : Option W → List I → View W I
  seated world seen = record { world = world; seen = seen; told = []; taken = None; refused = 0; counted = [] }

  -- the seat holds the value, which it took with this story
  abbrev pub holding : View W I → List I → View W I
  holding v story = record { world = v.world; seen = v.seen; told = v.told; taken = Some story; refused = v.refused; counted = v.counted }

  abbrev pub refused_once : View W I → View W I
  refused_once v = record { world = v.world; seen = v.seen; told = v.told; taken = v.taken; refused = v.refused + 1; counted = v.counted }

  -- the seat holds nothing again, has seen so much, and has counted the refused takes of all seats
  abbrev pub resting : View W I → List I → List ℕ → View W I
  resting v seen counted = record { world = v.world; seen = seen; told = v.told; taken = None; refused = v.refused; counted = counted }

  -- the seat has seen one list and was told another
  abbrev pub informed : View W I → List I → List I → View W I
  informed v seen told = record { world = v.world; seen = seen; told = told; taken = v.taken; refused = v.refused; counted = v.counted }

module _ {V W I : Type 0} where
  -- the value came with the slot. It has the seat's world, and its story begins with what the seat has seen
  abbrev pub Takes : (V → W) → (V → List I) → Me (Option V) (View W I) → Me (Option V) (View W I) → Type 0
  Takes world story m m' = (value : V) × (m' ≡ (holding m.0 (story value), (0, Some value) ∷ m.1)) × IfSome m.0.world (λ x. x ≡ world value) × IsPrefix m.0.seen (story value)

  -- the word was 0 and is 1, or it was read as 1 and the seat has one more refused take
  abbrev pub Attempts : (V → W) → (V → List I) → Step (Option V) → Me (Option V) (View W I) → ℕ → Me (Option V) (View W I) → Type 0
  Attempts world story st m found m' = (found ≡ 0 → Takes world story m m') × (found ≢ 0 → m' ≡ (refused_once m.0, m.1))

  -- the value is at home again, and the seat has the view that it leaves, after some count of refused takes
  abbrev pub Gives : (View W I → V → List ℕ → View W I) → Step (Option V) → Me (Option V) (View W I) → ℕ → Me (Option V) (View W I) → Type 0
  Gives leaves st m found m' = (value : V) → m.1 ≡ (0, Some value) ∷ [] → (counted : List ℕ) × (m' ≡ (leaves m.0 value counted, []))

  -- what was told begins what was seen, and waits no more
  abbrev pub Settles : Step (Option V) → Me (Option V) (View W I) → ℕ → Me (Option V) (View W I) → Type 0
  Settles st m found m' = (m' ≡ (informed m.0 m.0.seen [], m.1)) × IsPrefix m.0.told m.0.seen
