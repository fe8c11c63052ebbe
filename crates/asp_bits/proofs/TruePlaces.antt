-- Membership in the true places of a list of truth values.
use Rattle.std.proofs.Common.{◌≡◌, ℕ, zero, suc, ◌+◌, ◌<◌, Bool, true, false, ◌||◌, List, [], ◌∷◌, get_or, eqb, Some, refl, ap, ◌∙◌, arith}
use Rattle.std.specs.List.{list_any, slice_get}
use Rattle.std.proofs.lemmas.Bool.{eq-eqb, ne_eqb, or_from, or_left}
use Rattle.std.proofs.lemmas.Option.{get_or_from_slice_get}
use Rattle.asp_bits.specs.Places.{true_from, true_places}

-- no place before the first is one of them
pub none_before : (first a : ℕ) (values : List Bool) → a < first → list_any (λ b. eqb b a) (true_from first values) ≡ false
none_before first a [] h = refl
none_before first a (true ∷ values) h =
    or_from (eqb first a) (list_any (λ b. eqb b a) (true_from (suc first) values)) (ne_eqb first a (λ e. omega arith))
    (none_before (suc first) a values (omega arith))
none_before first a (false ∷ values) h = none_before (suc first) a values (omega arith)

-- a place is one of them exactly where the value there is true
pub any-true_from : (first : ℕ) (values : List Bool) (k a : ℕ) → first + k ≡ a
    → list_any (λ b. eqb b a) (true_from first values) ≡ get_or values k false
any-true_from first [] k a at = refl
any-true_from first (true ∷ values) zero a at =
    or_left (eqb first a) (list_any (λ b. eqb b a) (true_from (suc first) values)) (eq-eqb first a (omega arith))
any-true_from first (true ∷ values) (suc k) a at =
    ap (λ t. t || list_any (λ b. eqb b a) (true_from (suc first) values)) (ne_eqb first a (λ e. omega arith))
    ∙ any-true_from (suc first) values k a (omega arith)
any-true_from first (false ∷ values) zero a at = none_before (suc first) a values (omega arith)
any-true_from first (false ∷ values) (suc k) a at = any-true_from (suc first) values k a (omega arith)

-- a place is a true one exactly where the value there is true; past the end none is
pub any-true_places : (values : List Bool) (a : ℕ) → list_any (λ b. eqb b a) (true_places values) ≡ get_or values a false
any-true_places values a = any-true_from 0 values a a (omega arith)

-- what was read at a place says whether it is a true one
pub any-read : (values : List Bool) (a : ℕ) (value : Bool) → slice_get values a ≡ Some value
    → list_any (λ b. eqb b a) (true_places values) ≡ value
any-read values a value h = any-true_places values a ∙ get_or_from_slice_get values a value false h
