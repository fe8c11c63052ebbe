-- What numbers give: their value is read up to a bound that no number in range reaches.
use Rattle.std.proofs.Common.{ℕ, zero, suc, ◌+◌, ◌-◌, ◌*◌, ◌≤◌, ◌<◌, ◌≡◌, ◌⊎◌, refl, sym, ◌∙◌, ap, subst, inl, inr, Bool, true, false, not, ◌&&◌, List, [], ◌∷◌, ◌++◌, length, take, get_or, min, pos, negsuc, neg_ℤ, arith, take-suc}
use Rattle.std.specs.Prelude.{Option, Some, Result, Ok, Err, if◌then◌else◌}
use Rattle.std.specs.Char.{digit_value}
use Rattle.std.specs.List.{list_all}
use Rattle.std.specs.Str.Parse.{digits_value, digits_value_after}
use Rattle.std.proofs.lemmas.Bool.{lt-leb}
use Rattle.std.proofs.lemmas.Bool.Decides.{nat_tests}
use Rattle.std.proofs.lemmas.List.Folds.{list_all_at}
use Rattle.asp_defs.specs.declared.faults.TextFault.{TextFault}
use Rattle.asp_defs.specs.declared.faults.TextFault.TheVariants as faults
use Rattle.asp_defs.specs.Tokens as defs
use Rattle.asp_defs.proofs.TextRefutations.{clash}
use Rattle.asp_lex.specs.Fronts.{number_shape}
use Rattle.asp_lex.proofs.Fronts.{Gives}
use Rattle.asp_lex.proofs.Classes.{gives_number}

small_or_large : (v : ℕ) → (v ≤ 10000000000) ⊎ (10000000000 < v)
small_or_large v = grind arith

pub gives_natural : (v : ℕ) (bytes : List ℕ) → Gives (Some (defs.TokenShape (defs.NumberToken (pos v)))) (number_shape (pos (min v 10000000000))) bytes
gives_natural v bytes = go (small_or_large v)
  where
    found : Option defs.Shape
    found = Some (defs.TokenShape (defs.NumberToken (pos v)))

    go : (v ≤ 10000000000) ⊎ (10000000000 < v) → Gives found (number_shape (pos (min v 10000000000))) bytes
    go (inl h) =
        let e : v ≡ min v 10000000000 = omega arith in
        subst (λ n. Gives found (number_shape (pos n)) bytes) e (gives_number (pos v) bytes)
    go (inr h) =
        let e : 10000000000 ≡ min v 10000000000 = omega arith in
        subst (λ n. Gives found (number_shape (pos n)) bytes) e
        (λ place. ap (λ b. let ok : Result (List defs.Placed) TextFault = Ok (record { token = defs.NumberToken (pos v); begins = place; ends = place + length bytes } ∷ []) in if not b then Err (faults.BadNumber place) else ok) (lt-leb v 2147483647 (omega arith)))

pub gives_negative : (v : ℕ) (bytes : List ℕ) → Gives (Some (defs.TokenShape (defs.NumberToken (neg_ℤ (pos v))))) (number_shape (neg_ℤ (pos (min v 10000000000)))) bytes
gives_negative zero bytes = gives_number (pos zero) bytes
gives_negative (suc n) bytes = go (small_or_large (suc n))
  where
    found : Option defs.Shape
    found = Some (defs.TokenShape (defs.NumberToken (negsuc n)))

    go : (suc n ≤ 10000000000) ⊎ (10000000000 < suc n) → Gives found (number_shape (neg_ℤ (pos (min (suc n) 10000000000)))) bytes
    go (inl h) =
        let e : suc n ≡ min (suc n) 10000000000 = omega arith in
        subst (λ m. Gives found (number_shape (neg_ℤ (pos m))) bytes) e (gives_number (negsuc n) bytes)
    go (inr h) =
        let e : 10000000000 ≡ min (suc n) 10000000000 = omega arith in
        subst (λ m. Gives found (number_shape (neg_ℤ (pos m))) bytes) e
        (λ place. ap (λ b. let ok : Result (List defs.Placed) TextFault = Ok (record { token = defs.NumberToken (negsuc n); begins = place; ends = place + length bytes } ∷ []) in if not (b && true) then Err (faults.BadNumber place) else ok) (lt-leb n 2147483647 (omega arith)))

-- ---- the value of digits

digits_more : (n : ℕ) (ds : List ℕ) (d : ℕ) → digits_value_after 10 n (ds ++ d ∷ []) ≡ digits_value_after 10 n ds * 10 + digit_value d
digits_more n [] d = refl
digits_more n (b ∷ ds) d = digits_more (n * 10 + digit_value b) ds d

digit_value_is : (d : ℕ) → defs.is_digit d ≡ true → digit_value d ≡ d - 48
digit_value_is d h = grind (arith, nat_tests)

digit_at : (ds : List ℕ) (i : ℕ) → list_all defs.is_digit ds ≡ true → i < length ds → defs.is_digit (get_or ds i 0) ≡ true
digit_at ds i all within = go (defs.is_digit (get_or ds i 0)) refl
  where
    go : (b : Bool) → defs.is_digit (get_or ds i 0) ≡ b → b ≡ true
    go true e = refl
    go false e = clash (sym (list_all_at defs.is_digit ds i 0 within e) ∙ all)

pub digit_is_above : (d : ℕ) → defs.is_digit d ≡ true → 48 ≤ d
digit_is_above d h = grind (arith, nat_tests)

pub digit_at_above : (ds : List ℕ) (i : ℕ) → list_all defs.is_digit ds ≡ true → i < length ds → 48 ≤ get_or ds i 0
digit_at_above ds i all within = digit_is_above (get_or ds i 0) (digit_at ds i all within)

pub value_first : (b : ℕ) → defs.is_digit b ≡ true → b - 48 ≡ digits_value 10 (b ∷ [])
value_first b h = let e = digit_value_is b h in omega arith

-- one digit more
pub value_more : (b : ℕ) (ds : List ℕ) (i value : ℕ) → list_all defs.is_digit ds ≡ true → i < length ds → value ≡ min (digits_value 10 (b ∷ take i ds)) 10000000000 → min (value * 10 + (get_or ds i 0 - 48)) 10000000000 ≡ min (digits_value 10 (b ∷ take (i + 1) ds)) 10000000000
value_more b ds i value all within is =
    let d : ℕ = get_or ds i 0 in
    let step : digits_value 10 (b ∷ take (i + 1) ds) ≡ digits_value 10 (b ∷ take i ds) * 10 + (d - 48) = digits_step in
    omega arith
  where
    one_more : i + 1 ≡ suc i
    one_more = omega arith

    digits_step : digits_value 10 (b ∷ take (i + 1) ds) ≡ digits_value 10 (b ∷ take i ds) * 10 + (get_or ds i 0 - 48)
    digits_step =
        ap (λ k. digits_value 10 (b ∷ take k ds)) one_more
        ∙ ap (λ cs. digits_value 10 (b ∷ cs)) (take-suc ds i 0 within)
        ∙ digits_more (0 * 10 + digit_value b) (take i ds) (get_or ds i 0)
        ∙ ap (λ v. digits_value 10 (b ∷ take i ds) * 10 + v) (digit_value_is (get_or ds i 0) (digit_at ds i all within))
