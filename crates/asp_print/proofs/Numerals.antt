-- Numbers as they are printed, cut into their tokens.
use Rattle.std.proofs.Common.{ℕ, suc, ◌≤◌, ◌≡◌, refl, ◌∙◌, ap, Bool, true, false, not, ◌||◌, List, [], ◌∷◌, ◌++◌, arith, codes, ◌&&◌}
use Rattle.std.specs.Prelude.{ℤ, pos, negsuc, neg_ℤ, Some, int_le, ◌==◌, decimal, None, bytes_eq}
use Rattle.std.specs.List.{list_all}
use Rattle.std.specs.Fmt.{signed_decimal}
use Rattle.std.specs.Str.Parse.{digits_value, AllDigits, IsNumeral}
use Rattle.std.proofs.lemmas.Fmt.{decimal_is_IsNumeral}
use Rattle.std.proofs.lemmas.Str.Parse.{digit_from_value}
use Rattle.std.proofs.lemmas.Bool.{leb-true}
use Rattle.std.proofs.lemmas.Bool.Decides.{nat_tests}
use Rattle.asp_defs.specs.Tokens.{is_lower, is_name_byte}
use Rattle.asp_defs.specs.Tokens.{Token, NameToken, NumberToken, MinusToken, TokenShape, minus_shape, is_upper, is_digit, token_if, is_in_range, is_bad_number}
use Rattle.asp_defs.proofs.Lists.{both, and_true, not_true}
use Rattle.asp_print.proofs.Shapes.{is_name, digit_shape}
use Rattle.asp_print.proofs.Lexing.{Lexes, Ends, stops, not_all, lexes_token, lexes_name, minus}

-- a digit is no letter
no_lower : (b : ℕ) → 48 ≤ b → b ≤ 57 → is_lower b ≡ false
no_lower b low high = grind (arith, nat_tests)

no_upper : (b : ℕ) → 48 ≤ b → b ≤ 57 → is_upper b ≡ false
no_upper b low high = grind (arith, nat_tests)

a_digit : (b : ℕ) → 48 ≤ b → b ≤ 57 → is_digit b ≡ true
a_digit b low high = grind (arith, nat_tests)

digits_pass : (ds : List ℕ) → AllDigits 10 ds → list_all is_digit ds ≡ true
digits_pass [] h = refl
digits_pass (d ∷ ds) h =
    let range = digit_from_value d h.0 in
    and_true (is_digit d) (list_all is_digit ds) (a_digit d (omega (arith, range)) (omega (arith, range))) (digits_pass ds h.1)

-- a small letter is no digit, so that a minus before it is no number
letter_no_digit : (b : ℕ) → is_lower b ≡ true → is_digit b ≡ false
letter_no_digit b lower = grind (arith, nat_tests)

no_number : (b : ℕ) (bs : List ℕ) → is_lower b ≡ true → minus_shape (b ∷ bs) ≡ None
no_number b bs lower =
    ap (λ first. token_if (first && list_all is_digit bs) (NumberToken (neg_ℤ (pos (digits_value 10 (b ∷ bs)))))) (letter_no_digit b lower)

pub lexes_negated : (name : List ℕ) → is_name name ≡ true → (bytes : List ℕ) (ts : List Token) → stops bytes ≡ true → Lexes bytes ts → Lexes (45 ∷ (name ++ bytes)) (MinusToken ∷ NameToken name ∷ ts)
lexes_negated [] h bytes ts end others = absurd (cc)
lexes_negated (b ∷ bs) h bytes ts end others =
    minus (lexes_name (b ∷ bs) h bytes ts end others) (λ more. no_number b more (both (is_lower b) (list_all is_name_byte bs && not (bytes_eq (b ∷ bs) (codes "not"))) h).0)

-- a byte that ends a name ends a number
or_right_false : (a b : Bool) → a || b ≡ false → b ≡ false
or_right_false true b e = absurd (cc)
or_right_false false b e = e

or_left_false : (a b : Bool) → a || b ≡ false → a ≡ false
or_left_false true b e = absurd (cc)
or_left_false false b e = refl

no_digit : (c : ℕ) → is_name_byte c ≡ false → is_digit c ≡ false
no_digit c e =
    or_left_false (is_digit c) (c == 95)
    (or_right_false (is_upper c) (is_digit c || (c == 95)) (or_right_false (is_lower c) (is_upper c || (is_digit c || (c == 95))) e))

digits_end : (b : ℕ) (bs bytes : List ℕ) → 48 ≤ b → b ≤ 57 → stops bytes ≡ true → Ends (b ∷ bs) bytes
digits_end b bs [] low high end = tt
digits_end b bs (c ∷ bytes) low high end = λ more.
    digit_shape b (bs ++ c ∷ more) (no_lower b low high) (no_upper b low high) (a_digit b low high)
    ∙ ap (λ passes. token_if passes (NumberToken (pos (digits_value 10 (b ∷ (bs ++ c ∷ more)))))) (not_all is_digit bs c more (no_digit c (not_true (is_name_byte c) end)))

minus_ends : (ds bytes : List ℕ) (b : ℕ) (bs : List ℕ) → ds ≡ b ∷ bs → stops bytes ≡ true → Ends (45 ∷ b ∷ bs) bytes
minus_ends ds [] b bs e end = tt
minus_ends ds (c ∷ bytes) b bs e end = λ more.
    ap (λ passes. token_if passes (NumberToken (neg_ℤ (pos (digits_value 10 (b ∷ (bs ++ c ∷ more))))))) (not_all is_digit (b ∷ bs) c more (no_digit c (not_true (is_name_byte c) end)))

digits_lex : (ds : List ℕ) (n : ℕ) → IsNumeral 10 ds → digits_value 10 ds ≡ n → is_bad_number (NumberToken (pos n)) ≡ false → (bytes : List ℕ) (ts : List Token) → stops bytes ≡ true → Lexes bytes ts
    → Lexes (ds ++ bytes) (NumberToken (pos n) ∷ ts)
digits_lex [] n h value good bytes ts end others = absurd (omega (arith, h.0))
digits_lex (b ∷ bs) n h value good bytes ts end others =
    let range = digit_from_value b h.1.0 in
    let low : 48 ≤ b = omega (arith, range) in
    let high : b ≤ 57 = omega (arith, range) in
    lexes_token b bs bytes (NumberToken (pos n)) ts
    (digit_shape b bs (no_lower b low high) (no_upper b low high) (a_digit b low high)
    ∙ ap (λ passes. token_if passes (NumberToken (pos (digits_value 10 (b ∷ bs))))) (digits_pass bs h.1.1)
    ∙ ap (λ v. Some (TokenShape (NumberToken (pos v)))) value)
    good (digits_end b bs bytes low high end) others

minus_lexes : (ds : List ℕ) (n : ℕ) → IsNumeral 10 ds → digits_value 10 ds ≡ suc n → is_bad_number (NumberToken (negsuc n)) ≡ false → (bytes : List ℕ) (ts : List Token) → stops bytes ≡ true → Lexes bytes ts
    → Lexes (45 ∷ (ds ++ bytes)) (NumberToken (negsuc n) ∷ ts)
minus_lexes [] n h value good bytes ts end others = absurd (omega (arith, h.0))
minus_lexes (b ∷ bs) n h value good bytes ts end others =
    lexes_token 45 (b ∷ bs) bytes (NumberToken (negsuc n)) ts
    (ap (λ passes. token_if passes (NumberToken (neg_ℤ (pos (digits_value 10 (b ∷ bs)))))) (digits_pass (b ∷ bs) h.1)
    ∙ ap (λ v. Some (TokenShape (NumberToken (neg_ℤ (pos v))))) value)
    good (minus_ends (b ∷ bs) bytes b bs refl end) others

not_bad : (b : Bool) → not b ≡ false → b ≡ true
not_bad true e = refl
not_bad false e = absurd (cc)

pub lexes_number : (x : ℤ) → is_bad_number (NumberToken x) ≡ false → (bytes : List ℕ) (ts : List Token) → stops bytes ≡ true → Lexes bytes ts → Lexes (signed_decimal x ++ bytes) (NumberToken x ∷ ts)
lexes_number (pos n) good bytes ts end others =
    let range = both (int_le (negsuc 2147483647) (pos n)) (int_le (pos n) (pos 2147483647)) (not_bad (is_in_range (pos n)) good) in
    let most : n ≤ 2147483647 = leb-true n 2147483647 range.1 in
    let numeral = decimal_is_IsNumeral n (omega arith) in
    digits_lex (decimal n) n numeral.0 numeral.1 good bytes ts end others
lexes_number (negsuc n) good bytes ts end others =
    let range = both (int_le (negsuc 2147483647) (negsuc n)) (int_le (negsuc n) (pos 2147483647)) (not_bad (is_in_range (negsuc n)) good) in
    let most : n ≤ 2147483647 = leb-true n 2147483647 range.0 in
    let numeral = decimal_is_IsNumeral (suc n) (omega arith) in
    minus_lexes (decimal (suc n)) n numeral.0 numeral.1 good bytes ts end others
