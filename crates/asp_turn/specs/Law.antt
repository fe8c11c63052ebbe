-- The running turn, in its own words: what holds of the word, the slot and all seats between any two steps.
use Rattle.std.specs.Prelude.{◌≡◌, ◌≢◌, ℕ, List, [], ◌∷◌, Option, Some, None, IfSome}
use mathlib.Core.Option.{none, some}
use mathlib.Core.List.{IsPrefix}
use lib.ListN.{get_elem?}
use Rattle.atomic_table.specs.Table.{State, Act, stepped}
use Rattle.asp_turn.specs.declared.view.View.{View}

module _ {V W I : Type 0} where
  -- in each state that the rule allows
  abbrev pub Always : (State (Option V) (View W I) → Type 0) → (State (Option V) (View W I) → Type 0) → Type 0
  Always holds P = (s : State (Option V) (View W I)) → holds s → P s

  -- every seat, each but the spent ones with the one world, has seen a beginning of this story
  abbrev pub EachHasSeen : W → List I → State (Option V) (View W I) → Type 0
  EachHasSeen one story s = (seat : ℕ) (v : View W I) → get_elem? s.views seat ≡ some v → IfSome v.world (λ x. x ≡ one) × IsPrefix v.seen story

  abbrev pub IsFree : State (Option V) (View W I) → Type 0
  IsFree s = s.words ≡ 0 ∷ []

  abbrev pub IsTaken : State (Option V) (View W I) → Type 0
  IsTaken s = s.words ≡ 1 ∷ []

  -- the value at home has the one world, its story begins with what each seat has seen, and no seat holds
  abbrev pub RestsAtHome : (V → W) → (V → List I) → W → State (Option V) (View W I) → Type 0
  RestsAtHome world story one s = (value : V) × (s.homes ≡ some (Some value) ∷ []) × (world value ≡ one) × EachHasSeen one (story value) s
      × ((seat : ℕ) (v : View W I) → get_elem? s.views seat ≡ some v → v.taken ≡ None)

  -- exactly one seat holds, and each seat has seen a beginning of the story with which that one took the value
  abbrev pub HasOneHolder : W → State (Option V) (View W I) → Type 0
  HasOneHolder one s = (holder : ℕ) × (v : View W I) × (taken : List I) × (s.homes ≡ none ∷ []) × (get_elem? s.views holder ≡ some v) × (v.taken ≡ Some taken) × EachHasSeen one taken s
      × ((seat : ℕ) (u : View W I) → seat ≢ holder → get_elem? s.views seat ≡ some u → u.taken ≡ None)

  -- a step of a seat that finds the word 0, whatever it makes of the word, of the seat's view and of the slot, leaves its count of refused takes
  abbrev pub CountsOnlyRefusals : (State (Option V) (View W I) → Type 0) → Type 0
  CountsOnlyRefusals holds = (s : State (Option V) (View W I)) (seat word : ℕ) (hand : List (ℕ × Option V)) (v w : View W I) (act : Act (Option V)) → holds s → IsFree s
      → get_elem? s.views seat ≡ some v → holds (stepped s 0 word seat hand w act) → w.refused ≡ v.refused
