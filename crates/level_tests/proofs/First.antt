-- Of the two moves of a level with one choice, the first that is open.
use Rattle.std.proofs.Common.{◌≡◌, refl, ap, ◌⊎◌, inl, inr, ℕ, Bool, true, false, List, [], ◌∷◌}
use Rattle.std.specs.Prelude.{Result, Ok, Err}
use Rattle.std.specs.List.{filter}
use Rattle.asp_bits.specs.Places.{true_places}
use Rattle.asp_defs.specs.declared.faults.Give.{Give}
use Rattle.asp_game.specs.declared.step.Step.{Step}
use Rattle.asp_game.specs.declared.step.Step.TheVariants.{Found, Core}

-- the move without the atom is taken where it is open, and else the one with it
abbrev pub IsChosen : (List ℕ → Bool) → Bool → Type 0
IsChosen p value = ((value ≡ false) × (p [] ≡ true)) ⊎ ((value ≡ true) × (p [] ≡ false) × (p (0 ∷ []) ≡ true))

pub first-open : (p : List ℕ → Bool) (value : Bool) → IsChosen p value → (later : List (List ℕ)) × (filter p ([] ∷ (0 ∷ []) ∷ []) ≡ true_places (value ∷ []) ∷ later)
first-open p value (inl both) = (filter p ((0 ∷ []) ∷ []), rw (both.0, both.1) refl)
first-open p value (inr all) = ([], rw (all.0, all.1, all.2) refl)

abbrev set_in : List Bool → Result Step Give → List Bool
set_in d (Ok (Found set)) = set
set_in d (Ok (Core core)) = d
set_in d (Err give) = d

pub found-same : (x y : List Bool) → ◌≡◌ {A = Result Step Give} (Ok (Found x)) (Ok (Found y)) → x ≡ y
found-same x y same = ap (set_in x) same
