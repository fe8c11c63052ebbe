-- Literal codes: the two literals of an atom.
use Rattle.std.proofs.Common.{◌≡◌, ◌≢◌, ℕ, ◌+◌, ◌-◌, ◌*◌, ◌/◌, ◌%◌, ◌<◌, ◌≤◌, ◌⊎◌, arith, inl, inr}
use Rattle.std.proofs.lemmas.Bool.Decides.{nat_tests}
use Rattle.asp_clauses.specs.Literal.{negated}

pub negated_even : (l : ℕ) → l % 2 ≡ 0 → negated l ≡ l + 1
unfolding negated
negated_even l e = grind (arith, nat_tests)

pub negated_odd : (l : ℕ) → l % 2 ≢ 0 → negated l ≡ l - 1
unfolding negated
negated_odd l e = grind (arith, nat_tests)

pub is_even : (l : ℕ) → (l % 2 ≡ 0) ⊎ (l % 2 ≡ 1)
is_even l = grind arith

pub negated-half : (l : ℕ) → negated l / 2 ≡ l / 2
negated-half l = elim (is_even l) [ inl e ↦ let h = negated_even l e in omega (arith, h) | inr e ↦ let n : l % 2 ≢ 0 = omega arith in let h = negated_odd l n in omega (arith, h) ]

pub negated-≢ : (l : ℕ) → negated l ≢ l
negated-≢ l = elim (is_even l) [ inl e ↦ let h = negated_even l e in omega (arith, h) | inr e ↦ let n : l % 2 ≢ 0 = omega arith in let h = negated_odd l n in omega (arith, h) ]

-- the codes of an atom are its two literals
pub same_half : (l m : ℕ) → l / 2 ≡ m / 2 → (l ≡ m) ⊎ (l ≡ negated m)
same_half l m e = elim (is_even m) [
  | inl em ↦ elim (is_even l) [ inl el ↦ inl (omega arith) | inr el ↦ let h = negated_even m em in inr (omega (arith, h)) ]
  | inr em ↦ let n : m % 2 ≢ 0 = omega arith in let h = negated_odd m n in
      elim (is_even l) [ inl el ↦ inr (omega (arith, h)) | inr el ↦ inl (omega arith) ]
]

pub negated-negated : (l : ℕ) → negated (negated l) ≡ l
negated-negated l =
    let h = negated-half l in let n = negated-≢ l in let m = negated-≢ (negated l) in let k = negated-half (negated l) in
    let e : negated (negated l) / 2 ≡ l / 2 = omega (arith, h, k) in
    elim (same_half (negated (negated l)) l e) [ inl a ↦ a | inr b ↦ absurd (m b) ]

-- a literal that negates in range is in range
pub negated-lt : (l n : ℕ) → l < 2 * n → negated l < 2 * n
negated-lt l n h = let e = negated-half l in omega (arith, e)

pub negated-le : (l : ℕ) → negated l ≤ l + 1
negated-le l = let e = negated-half l in omega (arith, e)
