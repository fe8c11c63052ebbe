-- The bytes of names and of constants: which of them they lack, and that constants of one text are the same.
use Rattle.std.proofs.Common.{ℕ, zero, suc, ◌≡◌, ◌+◌, ◌/◌, ◌%◌, ◌<◌, ◌≤◌, ◌^◌, refl, sym, ◌∙◌, ap, inl, inr, Bool, true, false, not, ◌&&◌, ◌||◌, List, [], ◌∷◌, ◌++◌, codes, arith, if◌then◌else◌, nat_lt}
use Rattle.std.specs.Prelude.{ℤ, pos, negsuc, int_le, nat_le, ◌==◌, bytes_eq}
use Rattle.std.specs.Fmt.{signed_decimal, decimal, digits, digits_onto, digit_glyph}
use Rattle.std.specs.List.{list_all}
use Rattle.std.specs.Str.Parse.{IsNumeral}
use Rattle.std.proofs.lemmas.Bool.{eqb-true, leb-true}
use Rattle.std.proofs.lemmas.Fmt.{decimal_is_IsNumeral, signed_decimal_injective}
use Rattle.std.proofs.lemmas.Str.Parse.{digit_from_value}
use Rattle.asp_defs.specs.declared.ground.Const.{Const}
use Rattle.asp_defs.specs.declared.ground.Const.TheVariants as const
use Rattle.asp_defs.specs.Tokens.{is_lower, is_name_byte, is_in_range}
use Rattle.asp_defs.specs.Sets.{const_text}
use Rattle.asp_defs.proofs.Lists.{both, and_true, or_left, true_or_false, not_false}
use Rattle.asp_defs.proofs.Subsets.{true_is_not_false}
use Rattle.asp_print.proofs.Shapes.{is_name}
use Rattle.asp_sets.proofs.Ends.{head_same}
use lib.Signed.{mag}

-- whether a text lacks a byte
abbrev pub lacks : ℕ → List ℕ → Bool
lacks c text = list_all (λ b. not (b == c)) text

-- whether bytes are those of a predicate's name: a name, with or without a minus
abbrev pub is_word_byte : ℕ → Bool
is_word_byte b = is_name_byte b || (b == 45)

abbrev pub is_word : List ℕ → Bool
is_word [] = false
is_word (b ∷ bs) = list_all is_word_byte (b ∷ bs)

-- whether a constant is one that a text can have
abbrev pub spelled_const : Const → Bool
spelled_const (const.Int x) = is_in_range x
spelled_const (const.Sym s) = is_name s

-- ---- names

-- a byte that passes a test which another one doesn't pass is another one
other_byte : (test : ℕ → Bool) (c : ℕ) → test c ≡ false → (b : ℕ) → test b ≡ true → not (b == c) ≡ true
other_byte test c fails b h = elim (true_or_false (b == c)) [
  | inl e ↦ absurd (true_is_not_false (test c) (sym (ap test (eqb-true b c e)) ∙ h) fails)
  | inr e ↦ not_false (b == c) e
]

bytes_lack : (c : ℕ) → is_word_byte c ≡ false → (bs : List ℕ) → list_all is_word_byte bs ≡ true → lacks c bs ≡ true
bytes_lack c fails [] h = refl
bytes_lack c fails (b ∷ bs) h =
    let parts = both (is_word_byte b) (list_all is_word_byte bs) h in
    and_true (not (b == c)) (lacks c bs) (other_byte is_word_byte c fails b parts.0) (bytes_lack c fails bs parts.1)

pub word_lacks : (c : ℕ) → is_word_byte c ≡ false → (s : List ℕ) → is_word s ≡ true → lacks c s ≡ true
word_lacks c fails [] h = absurd (cc)
word_lacks c fails (b ∷ bs) h = bytes_lack c fails (b ∷ bs) h

name_bytes : (bs : List ℕ) → list_all is_name_byte bs ≡ true → list_all is_word_byte bs ≡ true
name_bytes [] h = refl
name_bytes (b ∷ bs) h =
    let parts = both (is_name_byte b) (list_all is_name_byte bs) h in
    and_true (is_word_byte b) (list_all is_word_byte bs) (or_left (is_name_byte b) (b == 45) parts.0) (name_bytes bs parts.1)

pub name_word : (s : List ℕ) → is_name s ≡ true → is_word s ≡ true
name_word [] h = h
name_word (b ∷ bs) h =
    let parts = both (is_lower b) (list_all is_name_byte bs && not (bytes_eq (b ∷ bs) (codes "not"))) h in
    let more = (both (list_all is_name_byte bs) (not (bytes_eq (b ∷ bs) (codes "not"))) parts.1).0 in
    name_bytes (b ∷ bs) (and_true (is_name_byte b) (list_all is_name_byte bs) (or_left (is_lower b) _ parts.0) more)

pub minus_word : (s : List ℕ) → is_name s ≡ true → is_word (codes "-" ++ s) ≡ true
minus_word [] h = absurd (cc)
minus_word (b ∷ bs) h = name_word (b ∷ bs) h

-- ---- numbers

pub different : (b c : ℕ) → c < b → not (b == c) ≡ true
different b c low = elim (true_or_false (b == c)) [
  | inl e ↦ let same = eqb-true b c e in absurd (omega (arith, same, low))
  | inr e ↦ not_false (b == c) e
]

glyph_low : (is_decimal : Bool) (d : ℕ) → 48 ≤ (if is_decimal then 48 + d else 87 + d)
glyph_low true d = omega arith
glyph_low false d = omega arith

glyph_lacks : (c : ℕ) → c < 45 → (d : ℕ) → not (digit_glyph false d == c) ≡ true
glyph_lacks c small d =
    let low : 48 ≤ digit_glyph false d = glyph_low (nat_lt d 10) d in
    different (digit_glyph false d) c (omega (arith, low, small))

onto_lacks : (c : ℕ) → c < 45 → (k base n : ℕ) (behind : List ℕ) → lacks c behind ≡ true → lacks c (digits_onto k base false n behind) ≡ true
onto_lacks c small zero base n behind h = h
onto_lacks c small (suc k) base n behind h =
    let more = and_true (not (digit_glyph false (n % base) == c)) (lacks c behind) (glyph_lacks c small (n % base)) h in
    go (n / base == 0) more (onto_lacks c small k base (n / base) (digit_glyph false (n % base) ∷ behind) more)
  where
    go : (b : Bool) → lacks c (digit_glyph false (n % base) ∷ behind) ≡ true → lacks c (digits_onto k base false (n / base) (digit_glyph false (n % base) ∷ behind)) ≡ true
        → lacks c (if b then digit_glyph false (n % base) ∷ behind else digits_onto k base false (n / base) (digit_glyph false (n % base) ∷ behind)) ≡ true
    go true one more = one
    go false one more = more

decimal_lacks : (c : ℕ) → c < 45 → (n : ℕ) → lacks c (decimal n) ≡ true
unfolding digits
decimal_lacks c small n = onto_lacks c small 64 10 n [] refl

signed_lacks : (c : ℕ) → c < 45 → (x : ℤ) → lacks c (signed_decimal x) ≡ true
signed_lacks c small (pos n) = decimal_lacks c small n
signed_lacks c small (negsuc n) = and_true (not (45 == c)) (lacks c (decimal (suc n))) (different 45 c small) (decimal_lacks c small (suc n))

-- ---- constants

pub const_lacks : (c : ℕ) → c < 45 → is_word_byte c ≡ false → (k : Const) → spelled_const k ≡ true → lacks c (const_text k) ≡ true
const_lacks c small fails (const.Int x) h = signed_lacks c small x
const_lacks c small fails (const.Sym s) h = word_lacks c fails s (name_word s h)

few_digits : (x : ℤ) → is_in_range x ≡ true → mag x < 2 ^ 63
few_digits (pos n) h =
    let range = both (int_le (negsuc 2147483647) (pos n)) (int_le (pos n) (pos 2147483647)) h in
    let most : n ≤ 2147483647 = leb-true n 2147483647 range.1 in
    omega (arith, most)
few_digits (negsuc n) h =
    let range = both (int_le (negsuc 2147483647) (negsuc n)) (int_le (negsuc n) (pos 2147483647)) h in
    let most : n ≤ 2147483647 = leb-true n 2147483647 range.0 in
    omega (arith, most)

-- a number begins with a byte that is no small letter
first_low : (ds : List ℕ) → IsNumeral 10 ds → (s : List ℕ) → is_name s ≡ true → ds ≡ s → ⊥
first_low [] h s named e = omega (arith, h.0)
first_low (d ∷ ds) h [] named e = absurd (cc)
first_low (d ∷ ds) h (b ∷ bs) named e =
    let range = digit_from_value d h.1.0 in
    let lower = (both (is_lower b) (list_all is_name_byte bs && not (bytes_eq (b ∷ bs) (codes "not"))) named).0 in
    let low : 97 ≤ b = leb-true 97 b (both (nat_le 97 b) (nat_le b 122) lower).0 in
    let same : d ≡ b = head_same d b ds bs e in
    absurd (omega (arith, range, low, same))

no_name : (x : ℤ) → is_in_range x ≡ true → (s : List ℕ) → is_name s ≡ true → signed_decimal x ≡ s → ⊥
no_name (pos n) h s named e =
    let few = few_digits (pos n) h in
    first_low (decimal n) (decimal_is_IsNumeral n (omega (arith, few))).0 s named e
no_name (negsuc n) h [] named e = absurd (cc)
no_name (negsuc n) h (b ∷ bs) named e =
    let lower = (both (is_lower b) (list_all is_name_byte bs && not (bytes_eq (b ∷ bs) (codes "not"))) named).0 in
    let low : 97 ≤ b = leb-true 97 b (both (nat_le 97 b) (nat_le b 122) lower).0 in
    let same : 45 ≡ b = head_same 45 b (decimal (suc n)) bs e in
    absurd (omega (arith, low, same))

pub const_same : (k l : Const) → spelled_const k ≡ true → spelled_const l ≡ true → const_text k ≡ const_text l → k ≡ l
const_same (const.Int x) (const.Int y) h g e = ap const.Int (signed_decimal_injective x y (few_digits x h) (few_digits y g) e)
const_same (const.Int x) (const.Sym t) h g e = absurd (no_name x h t g e)
const_same (const.Sym s) (const.Int y) h g e = absurd (no_name y g s h (sym e))
const_same (const.Sym s) (const.Sym t) h g e = ap const.Sym e
