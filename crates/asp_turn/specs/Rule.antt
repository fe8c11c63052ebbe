-- What holds of the turn's word, of the value and of all seats between two steps.
use Rattle.std.specs.Prelude.{◌≡◌, ◌≢◌, ◌≤◌, ℕ, List, [], ◌∷◌, length, slice_index, Option, Some, None, IfSome, ◌⊎◌}
use mathlib.Core.Option.{none, some}
use mathlib.Core.List.{IsPrefix}
use lib.ListN.{get_elem?}
use Rattle.atomic_table.specs.Table.{State}
use Rattle.asp_turn.specs.declared.view.View.{View}

-- a seat that holds has the turn's one slot, with nothing in it: the value is in its hand
abbrev pub in_hand : {V I : Type 0} → Option (List I) → List (ℕ × Option V)
in_hand None = []
in_hand (Some taken) = (0, None) ∷ []

module _ {W I : Type 0} where
  -- a seat stands for the one world, and what it has seen and was told begins the story
  pub record Knows (one : W) (story : List I) (v : View W I) : Type 0 where
    pub world : IfSome v.world (λ x. x ≡ one)
    pub seen : IsPrefix v.seen story
    pub told : IsPrefix v.told story

  -- each seat has counted only seats that there are, and of none more refused takes than it has now
  pub record CountsRise (views : List (View W I)) : Type 0 where
    pub within : (by : ℕ) (u : View W I) → get_elem? views by ≡ some u → length u.counted ≤ length views
    pub below : (by : ℕ) (u : View W I) → get_elem? views by ≡ some u → (seat : ℕ) (v : View W I) → get_elem? views seat ≡ some v → slice_index u.counted seat ≤ v.refused

  -- the seat was never refused, or another seat has counted all its refused takes: so it can't add one by itself
  abbrev pub IsCounted : List (View W I) → ℕ → View W I → Type 0
  IsCounted views seat v = (v.refused ≡ 0) ⊎ ((by : ℕ) × (by ≢ seat) × (u : View W I) × (get_elem? views by ≡ some u) × (v.refused ≤ slice_index u.counted seat))

module _ {V W I : Type 0} where
  -- the word is 0: the value is at home, has the one world and this story, and no seat holds
  pub record AtHome (world : V → W) (story_of : V → List I) (one : W) (story : List I) (s : State (Option V) (View W I)) : Type 0 where
    pub word : s.words ≡ 0 ∷ []
    pub value : V
    pub home : s.homes ≡ some (Some value) ∷ []
    pub stands : world value ≡ one
    pub tells : story_of value ≡ story
    pub idle : (seat : ℕ) (v : View W I) → get_elem? s.views seat ≡ some v → v.taken ≡ None
    pub counted : (seat : ℕ) (v : View W I) → get_elem? s.views seat ≡ some v → IsCounted s.views seat v

  -- the word is 1: the slot is out, and exactly one seat holds, which took the value with this story
  pub record IsOut (story : List I) (s : State (Option V) (View W I)) : Type 0 where
    pub word : s.words ≡ 1 ∷ []
    pub home : s.homes ≡ none ∷ []
    pub holder : ℕ
    pub view : View W I
    pub sits : get_elem? s.views holder ≡ some view
    pub holds : view.taken ≡ Some story
    pub idle : (seat : ℕ) (v : View W I) → seat ≢ holder → get_elem? s.views seat ≡ some v → v.taken ≡ None
    pub counted : IsCounted s.views holder view

  -- the running turn: there is a story that begins with what each seat has seen. It is that of the value at home, or that with which the one holder took the value
  pub record Running (world : V → W) (story_of : V → List I) (one : W) (s : State (Option V) (View W I)) : Type 0 where
    pub story : List I
    pub knows : (seat : ℕ) (v : View W I) → get_elem? s.views seat ≡ some v → Knows one story v
    pub rises : CountsRise s.views
    pub place : AtHome world story_of one story s ⊎ IsOut story s
