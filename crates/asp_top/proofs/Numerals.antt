-- The number that digits are, cut off where it is larger than any that a word may be.
use Rattle.std.proofs.Common.{◌≡◌, ◌+◌, ◌-◌, ◌*◌, ◌<◌, ◌≤◌, ℕ, suc, min, Bool, true, false, ◌&&◌, List, [], ◌∷◌, ◌++◌, length, take, take-suc, get_or, refl, sym, ap, ◌∙◌, subst, arith}
use Rattle.std.specs.Prelude.{Option, Some, None, nat_le, if◌then◌else◌}
use Rattle.std.specs.Char.{digit_value}
use Rattle.std.specs.List.{list_all}
use Rattle.std.specs.Str.Parse.{digits_value, digits_value_after}
use Rattle.std.proofs.lemmas.Bool.{leb-true}
use Rattle.std.proofs.lemmas.Bool.Decides.{nat_tests}
use Rattle.std.proofs.lemmas.List.Folds.{list_all_at}
use Rattle.asp_defs.specs.Tokens.{is_digit}
use Rattle.asp_defs.specs.Words.{is_number, number_within}
use Rattle.asp_defs.proofs.Lists.{both}
use Rattle.asp_defs.proofs.TextRefutations.{clash}

digits_more : (n : ℕ) (ds : List ℕ) (d : ℕ) → digits_value_after 10 n (ds ++ d ∷ []) ≡ digits_value_after 10 n ds * 10 + digit_value d
digits_more n [] d = refl
digits_more n (b ∷ ds) d = digits_more (n * 10 + digit_value b) ds d

digit_value_is : (d : ℕ) → is_digit d ≡ true → digit_value d ≡ d - 48
digit_value_is d h = grind (arith, nat_tests)

pub digit_at : (ds : List ℕ) (i : ℕ) → list_all is_digit ds ≡ true → i < length ds → is_digit (get_or ds i 0) ≡ true
digit_at ds i all within = go (is_digit (get_or ds i 0)) refl
  where
    go : (b : Bool) → is_digit (get_or ds i 0) ≡ b → b ≡ true
    go true e = refl
    go false e = clash (sym (list_all_at is_digit ds i 0 within e) ∙ all)

pub digit_is_above : (d : ℕ) → is_digit d ≡ true → 48 ≤ d
digit_is_above d h = grind (arith, nat_tests)

pub digit_at_above : (ds : List ℕ) (i : ℕ) → list_all is_digit ds ≡ true → i < length ds → 48 ≤ get_or ds i 0
digit_at_above ds i all within = digit_is_above (get_or ds i 0) (digit_at ds i all within)

-- one digit more
pub value_more : (ds : List ℕ) (i value : ℕ) → list_all is_digit ds ≡ true → i < length ds
    → value ≡ min (digits_value 10 (take i ds)) 1000000000000000001
    → min (value * 10 + (get_or ds i 0 - 48)) 1000000000000000001 ≡ min (digits_value 10 (take (i + 1) ds)) 1000000000000000001
value_more ds i value all within is =
    let d : ℕ = get_or ds i 0 in
    let step : digits_value 10 (take (i + 1) ds) ≡ digits_value 10 (take i ds) * 10 + (d - 48) = digits_step in
    omega arith
  where
    one_more : i + 1 ≡ suc i
    one_more = omega arith

    digits_step : digits_value 10 (take (i + 1) ds) ≡ digits_value 10 (take i ds) * 10 + (get_or ds i 0 - 48)
    digits_step =
        ap (λ k. digits_value 10 (take k ds)) one_more
        ∙ ap (λ cs. digits_value 10 cs) (take-suc ds i 0 within)
        ∙ digits_more 0 (take i ds) (get_or ds i 0)
        ∙ ap (λ v. digits_value 10 (take i ds) * 10 + v) (digit_value_is (get_or ds i 0) (digit_at ds i all within))

-- ---- a number in a range

module _ (least most value : ℕ) (bytes : List ℕ) (below : most < 1000000000000000001)
    (is : value ≡ min (digits_value 10 bytes) 1000000000000000001) where
  number_by : (passes : Bool) → (nat_le least value && nat_le value most) ≡ passes
      → (if passes then Some value else None)
      ≡ (if nat_le least (digits_value 10 bytes) && nat_le (digits_value 10 bytes) most then Some (digits_value 10 bytes) else None)
  number_by true h =
      let tests = both (nat_le least value) (nat_le value most) h in
      let under : value ≤ most = leb-true value most tests.1 in
      let same : value ≡ digits_value 10 bytes = omega (arith, under, below, is) in
      subst (λ (n : ℕ). Some value ≡ (if nat_le least n && nat_le n most then Some n else None)) same
      (sym (ap (λ (b : Bool). if b then Some value else None) h))
  number_by false h =
      sym (ap (λ (b : Bool). if b then Some (digits_value 10 bytes) else None) (outside (nat_le least (digits_value 10 bytes) && nat_le (digits_value 10 bytes) most) refl))
    where
      outside : (b : Bool) → (nat_le least (digits_value 10 bytes) && nat_le (digits_value 10 bytes) most) ≡ b → b ≡ false
      outside false e = refl
      outside true e =
          let tests = both (nat_le least (digits_value 10 bytes)) (nat_le (digits_value 10 bytes) most) e in
          let under : digits_value 10 bytes ≤ most = leb-true (digits_value 10 bytes) most tests.1 in
          let same : digits_value 10 bytes ≡ value = omega (arith, under, below, is) in
          clash (sym h ∙ subst (λ (n : ℕ). (nat_le least n && nat_le n most) ≡ true) same e)

  within_by : (passes : Bool) → (nat_le least value && nat_le value most) ≡ passes → is_number bytes ≡ true
      → (if passes then Some value else None) ≡ number_within least most bytes
  within_by passes h number =
      number_by passes h
      ∙ sym (ap (λ (b : Bool). if b && (nat_le least (digits_value 10 bytes) && nat_le (digits_value 10 bytes) most) then Some (digits_value 10 bytes) else None) number)

  pub is_within_range : (nat_le least value && nat_le value most) ≡ true → is_number bytes ≡ true
      → Some value ≡ number_within least most bytes
  is_within_range h number = within_by true h number

  pub is_outside : (nat_le least value && nat_le value most) ≡ false → is_number bytes ≡ true → None ≡ number_within least most bytes
  is_outside h number = within_by false h number

pub is_no_number : (least most : ℕ) (bytes : List ℕ) → is_number bytes ≡ false → None ≡ number_within least most bytes
is_no_number least most bytes h =
    sym (ap (λ (b : Bool). if b && (nat_le least (digits_value 10 bytes) && nat_le (digits_value 10 bytes) most) then Some (digits_value 10 bytes) else None) h)

pub most_value : (least most value : ℕ) → (nat_le least value && nat_le value most) ≡ true → value ≤ most
most_value least most value h = leb-true value most (both (nat_le least value) (nat_le value most) h).1
