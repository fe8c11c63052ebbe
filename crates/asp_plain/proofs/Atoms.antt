-- Masks of lists of atoms: their bits, and what `&`, `|` and `^` say of them.
use Rattle.std.proofs.Common.{◌≡◌, ◌*◌, ◌^◌, ℕ, Bool, true, false, not, ◌&&◌, ◌||◌, eqb, List, [], ◌∷◌, refl, sym, ap, ◌∙◌, subst, inl, inr, arith}
use Rattle.std.proofs.Math.Nat.{one-le-pow}
use Rattle.std.specs.List.{list_any, list_all, fold}
use Rattle.std.specs.Int.{bit_at}
use Rattle.std.specs.Int.RustNames.{bit_and, bit_or, bit_xor}
use Rattle.std.proofs.lemmas.Nat.Bits.{bit_at_and, bit_at_or, bit_at_xor, bit_at-pow_same, bit_at-pow_other, bit_at-lt, same_from_bits, bit_at-zero, and_pow}
use Rattle.std.proofs.lemmas.Bool.{eqb-true, eqb-false, eq-eqb, ne_eqb, cases_eq, cases_Bool, both_ways, and_parts, and_from, and_right, or_cases, or_left, or_right, not-true, not_from_false}
use Rattle.asp_defs.specs.Interpretations.{holds}
use Rattle.asp_plain.specs.Masks.{with_atom, mask_of}

-- whether a bit is set
abbrev pub bit : ℕ → ℕ → Bool
bit mask a = eqb (bit_at mask a) 1

-- two tests that follow from each other are the same
pub same_test : (p q : Bool) → (p ≡ true → q ≡ true) → (q ≡ true → p ≡ true) → p ≡ q
same_test true true f g = refl
same_test true false f g = sym (f refl)
same_test false true f g = g refl
same_test false false f g = refl

pub or_assoc : (p q r : Bool) → ((p || q) || r) ≡ (p || (q || r))
or_assoc true q r = refl
or_assoc false q r = refl

pub or_false : (p : Bool) → (p || false) ≡ p
or_false true = refl
or_false false = refl

-- a bit that isn't set is 0
pub bit_zero : (mask a : ℕ) → bit mask a ≡ false → bit_at mask a ≡ 0
bit_zero mask a h = let below = bit_at-lt mask a in let ne = eqb-false (bit_at mask a) 1 h in omega arith

-- the same bits, as tests and as numbers
pub bit_at-same : (m k a : ℕ) → bit m a ≡ bit k a → bit_at m a ≡ bit_at k a
bit_at-same m k a e =
    elim (cases_Bool (bit k a)) [
      | inl set_bit ↦ eqb-true (bit_at m a) 1 (e ∙ set_bit) ∙ sym (eqb-true (bit_at k a) 1 set_bit)
      | inr unset ↦ bit_zero m a (e ∙ unset) ∙ sym (bit_zero k a unset)
    ]

-- two masks with the same bits are the same
pub same_masks : (m k : ℕ) → ((a : ℕ) → bit m a ≡ bit k a) → m ≡ k
same_masks m k h = same_from_bits m k (λ a. bit_at-same m k a (h a))

-- the bits of `&`, of `|`, and of `^` with a part
pub bit-and : (m k a : ℕ) → bit (bit_and m k) a ≡ (bit m a && bit k a)
bit-and m k a =
    let e = bit_at_and m k a in
    let m_bit = bit_at-lt m a in
    let k_bit = bit_at-lt k a in
    same_test (bit (bit_and m k) a) (bit m a && bit k a)
    (λ h.
    let one = eqb-true (bit_at (bit_and m k) a) 1 h in
    and_from (bit m a) (bit k a) (eq-eqb (bit_at m a) 1 (omega arith)) (eq-eqb (bit_at k a) 1 (omega arith)))
    (λ h.
    let parts = and_parts (bit m a) (bit k a) h in
    let m_one = eqb-true (bit_at m a) 1 parts.0 in
    let k_one = eqb-true (bit_at k a) 1 parts.1 in
    eq-eqb (bit_at (bit_and m k) a) 1 (omega arith))

pub bit-or : (m k a : ℕ) → bit (bit_or m k) a ≡ (bit m a || bit k a)
bit-or m k a =
    let e = bit_at_or m k a in
    let m_bit = bit_at-lt m a in
    let k_bit = bit_at-lt k a in
    elim (cases_Bool (bit m a)) [
      | inl one ↦
          let m_one = eqb-true (bit_at m a) 1 one in
          eq-eqb (bit_at (bit_or m k) a) 1 (omega arith) ∙ sym (or_left (bit m a) (bit k a) one)
      | inr none ↦
          let m_zero = bit_zero m a none in
          let same : bit_at (bit_or m k) a ≡ bit_at k a = omega arith in
          ap (λ x. eqb x 1) same ∙ sym (ap (λ t. t || bit k a) none)
    ]

pub bit-rest : (s m a : ℕ) → (bit m a ≡ true → bit s a ≡ true) → bit (bit_xor s m) a ≡ (bit s a && not (bit m a))
bit-rest s m a part =
    let e = bit_at_xor s m a in
    let s_bit = bit_at-lt s a in
    let m_bit = bit_at-lt m a in
    elim (cases_Bool (bit m a)) [
      | inl one ↦
          let m_one = eqb-true (bit_at m a) 1 one in
          let s_one = eqb-true (bit_at s a) 1 (part one) in
          ne_eqb (bit_at (bit_xor s m) a) 1 (λ w. omega arith)
          ∙ sym (and_right (bit s a) (not (bit m a)) (ap not one))
      | inr none ↦
          let m_zero = bit_zero m a none in
          let same : bit_at (bit_xor s m) a ≡ bit_at s a = omega arith in
          ap (λ x. eqb x 1) same ∙ sym (ap (λ t. bit s a && not t) none ∙ and_true (bit s a))
    ]
  where
    and_true : (p : Bool) → (p && true) ≡ p
    and_true true = refl
    and_true false = refl

-- one atom more
pub bit-with_atom : (mask b a : ℕ) → bit (with_atom mask b) a ≡ (bit mask a || eqb b a)
bit-with_atom mask b a =
    elim (cases_eq b a) [
      | inl same ↦
          let one : bit_at (2 ^ b) a ≡ 1 = subst (λ (x : ℕ). bit_at (2 ^ b) x ≡ 1) same (bit_at-pow_same b) in
          let below = bit_at-lt mask a in
          let is_or = bit_at_or mask (2 ^ b) a in
          eq-eqb (bit_at (with_atom mask b) a) 1 (omega arith)
          ∙ sym (or_right (bit mask a) (eqb b a) (eq-eqb b a same))
      | inr other ↦
          let none : bit_at (2 ^ b) a ≡ 0 = bit_at-pow_other b a (λ e. other (sym e)) in
          let is_or = bit_at_or mask (2 ^ b) a in
          let stays : bit_at (with_atom mask b) a ≡ bit_at mask a = omega arith in
          ap (λ x. eqb x 1) stays ∙ sym (ap (λ t. bit mask a || t) (ne_eqb b a other) ∙ or_false (bit mask a))
    ]

-- the bits of a set with the atoms of a list
pub bit-fold : (xs : List ℕ) (mask a : ℕ) → bit (fold with_atom mask xs) a ≡ (bit mask a || holds xs a)
bit-fold [] mask a = sym (or_false (bit mask a))
bit-fold (x ∷ xs) mask a =
    bit-fold xs (with_atom mask x) a ∙ ap (λ t. t || holds xs a) (bit-with_atom mask x a)
    ∙ or_assoc (bit mask a) (eqb x a) (holds xs a)

-- the bits of a list's mask are its members
pub bit-mask_of : (xs : List ℕ) (a : ℕ) → bit (mask_of xs) a ≡ holds xs a
bit-mask_of xs a = bit-fold xs 0 a ∙ ap (λ t. eqb t 1 || holds xs a) (bit_at-zero a)

-- whether a mask has an atom, by `&` with the atom's bit
pub lacks-atom : (xs : List ℕ) (a : ℕ) → eqb (bit_and (mask_of xs) (2 ^ a)) 0 ≡ not (holds xs a)
lacks-atom xs a =
    elim (cases_Bool (bit (mask_of xs) a)) [
      | inl one ↦
          let is_one = eqb-true (bit_at (mask_of xs) a) 1 one in
          ap (λ x. eqb x 0) (and_pow (mask_of xs) a ∙ ap (λ x. x * 2 ^ a) is_one)
          ∙ ne_eqb (1 * 2 ^ a) 0 (λ w. let some = one-le-pow a 2 (omega arith) in omega arith)
          ∙ sym (ap not (sym (bit-mask_of xs a) ∙ one))
      | inr none ↦
          let is_zero = bit_zero (mask_of xs) a none in
          ap (λ x. eqb x 0) (and_pow (mask_of xs) a ∙ ap (λ x. x * 2 ^ a) is_zero)
          ∙ eq-eqb (0 * 2 ^ a) 0 (omega arith)
          ∙ sym (ap not (sym (bit-mask_of xs a) ∙ none))
    ]

-- a test of all members
pub all_held : (f : ℕ → Bool) (xs : List ℕ) → ((a : ℕ) → holds xs a ≡ true → f a ≡ true) → list_all f xs ≡ true
all_held f [] h = refl
all_held f (x ∷ xs) h =
    and_from (f x) (list_all f xs) (h x (or_left (eqb x x) (holds xs x) (eq-eqb x x refl)))
    (all_held f xs (λ a k. h a (or_right (eqb x a) (holds xs a) k)))

pub all_to : (f : ℕ → Bool) (xs : List ℕ) → list_all f xs ≡ true → (a : ℕ) → holds xs a ≡ true → f a ≡ true
all_to f [] h a k = absurd (both_ways false refl k)
all_to f (x ∷ xs) h a k =
    let parts = and_parts (f x) (list_all f xs) h in
    elim (or_cases (eqb x a) (holds xs a) k) [
      | inl e ↦ subst (λ y. f y ≡ true) (eqb-true x a e) parts.0
      | inr e ↦ all_to f xs parts.1 a e
    ]

none_not : (f : ℕ → Bool) (xs : List ℕ) → not (list_all (λ a. not (f a)) xs) ≡ list_any f xs
none_not f [] = refl
none_not f (x ∷ xs) = go (f x) (list_all (λ a. not (f a)) xs) ∙ ap (λ t. f x || t) (none_not f xs)
  where
    go : (p q : Bool) → not (not p && q) ≡ (p || not q)
    go true q = refl
    go false q = refl

-- two masks have no bit in common
pub no_common : (m k : ℕ) → ((a : ℕ) → bit m a ≡ true → bit k a ≡ false) → bit_and m k ≡ 0
no_common m k h = same_from_bits (bit_and m k) 0 (λ a. at a)
  where
    at : (a : ℕ) → bit_at (bit_and m k) a ≡ bit_at 0 a
    at a =
        let both = bit_at_and m k a in
        let none = bit_at-zero a in
        elim (cases_Bool (bit m a)) [
          | inl set_bit ↦ let off = bit_zero k a (h a set_bit) in omega arith
          | inr unset ↦ let off = bit_zero m a unset in omega arith
        ]

pub no_common_back : (m k : ℕ) → bit_and m k ≡ 0 → (a : ℕ) → bit m a ≡ true → bit k a ≡ false
no_common_back m k h a set_bit =
    let both = bit_at_and m k a in
    let none : bit_at (bit_and m k) a ≡ 0 = ap (λ x. bit_at x a) h ∙ bit_at-zero a in
    let one = eqb-true (bit_at m a) 1 set_bit in
    ne_eqb (bit_at k a) 1 (λ e. omega arith)

-- a mask has all bits of another
pub covers : (m k : ℕ) → ((a : ℕ) → bit m a ≡ true → bit k a ≡ true) → bit_and m k ≡ m
covers m k h = same_from_bits (bit_and m k) m (λ a. at a)
  where
    at : (a : ℕ) → bit_at (bit_and m k) a ≡ bit_at m a
    at a =
        let both = bit_at_and m k a in
        elim (cases_Bool (bit m a)) [
          | inl set_bit ↦
              let one = eqb-true (bit_at m a) 1 set_bit in
              let also = eqb-true (bit_at k a) 1 (h a set_bit) in
              omega arith
          | inr unset ↦ let off = bit_zero m a unset in omega arith
        ]

pub covers_back : (m k : ℕ) → bit_and m k ≡ m → (a : ℕ) → bit m a ≡ true → bit k a ≡ true
covers_back m k h a set_bit =
    let both = bit_at_and m k a in
    let one = eqb-true (bit_at m a) 1 set_bit in
    let kept : bit_at (bit_and m k) a ≡ bit_at m a = ap (λ x. bit_at x a) h in
    let below = bit_at-lt k a in
    eq-eqb (bit_at k a) 1 (omega arith)

-- none of the atoms is a member
pub none_of : (xs I : List ℕ) (m : ℕ) → ((a : ℕ) → holds I a ≡ bit m a)
    → eqb (bit_and (mask_of xs) m) 0 ≡ list_all (λ a. not (holds I a)) xs
none_of xs I m marks =
    same_test (eqb (bit_and (mask_of xs) m) 0) (list_all (λ a. not (holds I a)) xs)
    (λ h. all_held (λ a. not (holds I a)) xs (λ a k.
    not_from_false (holds I a)
    (marks a ∙ no_common_back (mask_of xs) m (eqb-true (bit_and (mask_of xs) m) 0 h) a (bit-mask_of xs a ∙ k))))
    (λ h. eq-eqb (bit_and (mask_of xs) m) 0 (no_common (mask_of xs) m (λ a k.
    sym (marks a) ∙ not-true (holds I a) (all_to (λ b. not (holds I b)) xs h a (sym (bit-mask_of xs a) ∙ k)))))

-- all of the atoms are members
pub all_of : (xs I : List ℕ) (m : ℕ) → ((a : ℕ) → holds I a ≡ bit m a)
    → eqb (bit_and (mask_of xs) m) (mask_of xs) ≡ list_all (holds I) xs
all_of xs I m marks =
    same_test (eqb (bit_and (mask_of xs) m) (mask_of xs)) (list_all (holds I) xs)
    (λ h. all_held (holds I) xs (λ a k.
    marks a
    ∙ covers_back (mask_of xs) m (eqb-true (bit_and (mask_of xs) m) (mask_of xs) h) a (bit-mask_of xs a ∙ k)))
    (λ h. eq-eqb (bit_and (mask_of xs) m) (mask_of xs) (covers (mask_of xs) m (λ a k.
    sym (marks a) ∙ all_to (holds I) xs h a (sym (bit-mask_of xs a) ∙ k))))

-- some of the atoms is a member
pub some_of : (xs I : List ℕ) (m : ℕ) → ((a : ℕ) → holds I a ≡ bit m a)
    → not (eqb (bit_and (mask_of xs) m) 0) ≡ list_any (holds I) xs
some_of xs I m marks = ap not (none_of xs I m marks) ∙ none_not (holds I) xs
