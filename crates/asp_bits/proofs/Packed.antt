-- lemmas on truth values packed into words
use Rattle.std.proofs.Common.{◌≡◌, ◌≢◌, ℕ, ◌+◌, ◌*◌, ◌/◌, ◌%◌, ◌-◌, ◌^◌, ◌<◌, ◌≤◌, Bool, true, false, List, length, get_or, set, replicate, eqb, Some, refl, sym, ap, ◌∙◌, ⊎_elim, arith, w64}
use Rattle.std.specs.List.{slice_get}
use Rattle.std.specs.Int.{bit_at, trailing_zeros}
use Rattle.std.specs.Int.Bits.{bit_and, bit_or, bit_xor}
use Rattle.std.proofs.lemmas.List.{get_or-set_same, get_or-set_other, length-set, same_lists, get_or_past, get_or-replicate, length-replicate, get_or_default, get_or_read}
use Rattle.std.proofs.lemmas.List.FromFn.{length-map-range_with_len, get_or-map-range_with_len}
use Rattle.std.proofs.lemmas.Option.{slice_get-get_or}
use Rattle.std.proofs.lemmas.Bool.{cases_eq, cases_lt, eq-eqb}
use Rattle.std.proofs.lemmas.Nat.{xor_lt}
use Rattle.std.proofs.lemmas.Nat.Bits.{bit_at-zero, bit_at_xor, bit_at-lt, same_from_bits, bit_at-trailing_zeros, bit_at_set_same, bit_at_set_other, bit_at_clear_same, bit_at_clear_other}
use Rattle.asp_bits.specs.Order.{ComesBefore}
use Rattle.asp_bits.specs.Words.{packed_bit, truth_values, IsPacked, WordComesBefore, SetsBit}

pub length-truth_values : (words : List ℕ) (len : ℕ) → length (truth_values words len) ≡ len
length-truth_values words len = length-map-range_with_len (λ place. eqb (packed_bit words place) 1) 0 len

pub get_or-truth_values : (words : List ℕ) (len place : ℕ) (d : Bool) → place < len → get_or (truth_values words len) place d ≡ eqb (packed_bit words place) 1
get_or-truth_values words len place d h =
    get_or-map-range_with_len (λ p. eqb (packed_bit words p) 1) 0 len place place d h (omega arith)

pub slice_get-truth_values : (words : List ℕ) (len place : ℕ) → place < len → slice_get (truth_values words len) place ≡ Some (eqb (packed_bit words place) 1)
slice_get-truth_values words len place h =
    slice_get-get_or (truth_values words len) place false (omega (arith, length-truth_values words len)) ∙ ap (λ (b : Bool). Some b) (get_or-truth_values words len place false h)

-- the word of a place stands in the list
word_within : (words : List ℕ) (len at : ℕ) → IsPacked words len → at < len → at / 64 < length words
word_within words len at p h = omega (arith, p.size)

module _ (words : List ℕ) (len : ℕ) (values : List Bool) (seen : truth_values words len ≡ values) (packed : IsPacked words len) (at : ℕ) (inside : at < length values) where
  pub place_within : at < len
  place_within = omega (arith, ap (λ (l : List Bool). length l) seen, length-truth_values words len)

  pub word_of_place : at / 64 < length words
  word_of_place = word_within words len at packed place_within

  pub slice_get-values : (word : ℕ) → word ≡ get_or words (at / 64) word → slice_get values at ≡ Some (eqb (bit_at word (at % 64)) 1)
  slice_get-values word is =
      rw (← seen) (slice_get-truth_values words len at place_within ∙ ap (λ (w : ℕ). Some (eqb (bit_at w (at % 64)) 1)) (sym (get_or_read words (at / 64) word word_of_place is 0)))

  pub SetsBit-read : (word changed : ℕ) (value : Bool) → word ≡ get_or words (at / 64) word → SetsBit word changed (at % 64) value → SetsBit (get_or words (at / 64) 0) changed (at % 64) value
  SetsBit-read word changed value is sets = rw (← get_or_read words (at / 64) word word_of_place is 0) sets

-- all words are 0
packed_bit-replicate : (count place : ℕ) → packed_bit (replicate count 0) place ≡ 0
packed_bit-replicate count place =
    ⊎_elim
    (λ (h : place / 64 < count). rw (get_or-replicate {A = ℕ} count (place / 64) 0 0 h) (bit_at-zero (place % 64)))
    (λ (h : count ≤ place / 64). rw (get_or_past (replicate {A = ℕ} count 0) (place / 64) 0 (omega (arith, length-replicate {A = ℕ} count 0))) (bit_at-zero (place % 64)))
    (cases_lt (place / 64) count)

pub truth_values-replicate : (count len : ℕ) → truth_values (replicate count 0) len ≡ replicate len false
truth_values-replicate count len =
    same_lists _ _ (length-truth_values _ len ∙ sym (length-replicate len false))
    (λ k d below.
    let inside : k < len = omega (arith, length-truth_values (replicate count 0) len) in
    get_or-truth_values _ len k d inside ∙ (ap (λ (b : ℕ). eqb b 1) (packed_bit-replicate count k) ∙ sym (get_or-replicate len k false d inside)))

pub truth_values-fresh : (words : List ℕ) (count len : ℕ) → words ≡ replicate count 0 → truth_values words len ≡ replicate len false
truth_values-fresh words count len is = ap (λ (l : List ℕ). truth_values l len) is ∙ truth_values-replicate count len

module _ (words : List ℕ) (at changed : ℕ) (value : Bool) (sets : SetsBit (get_or words (at / 64) 0) changed (at % 64) value) (within : at / 64 < length words) where
  packed_bit-set_same : eqb (packed_bit (set words (at / 64) changed) at) 1 ≡ value
  packed_bit-set_same = rw get_or-set_same sets.same

  packed_bit-set_other : (place : ℕ) → place ≢ at → packed_bit (set words (at / 64) changed) place ≡ packed_bit words place
  packed_bit-set_other place ne =
      ⊎_elim
      (λ (e : place / 64 ≡ at / 64). rw (e, get_or-set_same words (at / 64) changed 0 within) (sets.others (place % 64) (omega arith) (λ (q : place % 64 ≡ at % 64). ne (omega arith))))
      (λ (n : place / 64 ≡ at / 64 → ⊥). rw (get_or-set_other words (at / 64) (place / 64) changed 0 n) refl)
      (cases_eq (place / 64) (at / 64))

  pub IsPacked-set : (len : ℕ) → at < len → IsPacked words len → IsPacked (set words (at / 64) changed) len
  IsPacked-set len h p = record {
    size = length-set words (at / 64) changed ∙ p.size;
    clear = λ place low high. packed_bit-set_other place (omega arith) ∙ p.clear place low (omega (arith, length-set words (at / 64) changed));
  }

  pub truth_values-set : (len : ℕ) → at < len → truth_values (set words (at / 64) changed) len ≡ set (truth_values words len) at value
  truth_values-set len h =
      same_lists _ _
      (length-truth_values _ len ∙ sym (length-set (truth_values words len) at value ∙ length-truth_values words len))
      (λ k d below.
      let inside : k < len = omega (arith, length-truth_values (set words (at / 64) changed) len) in
      let room : at < length (truth_values words len) = omega (arith, length-truth_values words len) in
      get_or-truth_values _ len k d inside ∙ ⊎_elim
      (λ (e : k ≡ at). rw (e, get_or-set_same (truth_values words len) at value d room) packed_bit-set_same)
      (λ (n : k ≡ at → ⊥). rw (get_or-set_other (truth_values words len) at k value d n, get_or-truth_values words len k d inside) (ap (λ (b : ℕ). eqb b 1) (packed_bit-set_other k n)))
      (cases_eq k at))

same_bit : (first second : List ℕ) (index : ℕ) (word : WordComesBefore (get_or first index 0) (get_or second index 0)) → ((k : ℕ) → k < index → get_or first k 0 ≡ get_or second k 0) → (k : ℕ) → k < 64 * index + word.bit → packed_bit first k ≡ packed_bit second k
same_bit first second index word same k before =
    ⊎_elim
    (λ (h : k / 64 < index). ap (λ (w : ℕ). bit_at w (k % 64)) (same (k / 64) h))
    (λ (h : index ≤ k / 64).
    let at_word : k / 64 ≡ index = omega (arith, word.within) in
    rw at_word (word.agree (k % 64) (omega arith)))
    (cases_lt (k / 64) index)

same_where_zero : (first second k : ℕ) → bit_at (bit_xor first second) k ≡ 0 → bit_at first k ≡ bit_at second k
same_where_zero first second k z =
    omega (arith, sym (bit_at_xor first second k) ∙ z, bit_at-lt first k, bit_at-lt second k)

-- the lowest bit on which two words differ
pub record IsLowestDifference (first second bit : ℕ) : Type 0 where
  pub within : bit < 64
  pub agree : (k : ℕ) → k < bit → bit_at first k ≡ bit_at second k
  pub unlike : (bit_at first bit + bit_at second bit) % 2 ≡ 1

-- the words agree before `index`, and the words there are in order: so are the lists of truth values
pub ComesBefore-word : (first second : List ℕ) (len index : ℕ) → IsPacked first len → IsPacked second len → index < length second → ((k : ℕ) → k < index → get_or first k 0 ≡ get_or second k 0) → WordComesBefore (get_or first index 0) (get_or second index 0) → ComesBefore (truth_values first len) (truth_values second len)
ComesBefore-word first second len index p q low same word =
    let place : ℕ = 64 * index + word.bit in
    let at_word : place / 64 ≡ index = omega (arith, word.within) in
    let at_bit : place % 64 ≡ word.bit = omega (arith, word.within) in
    let zero_bit : packed_bit first place ≡ 0 = rw (at_word, at_bit) word.zero in
    let one_bit : packed_bit second place ≡ 1 = rw (at_word, at_bit) word.one in
    let inside : place < len = ⊎_elim (λ (h : place < len). h) (λ (h : len ≤ place). absurd (omega (arith, q.clear place h (omega (arith, word.within))))) (cases_lt place len) in
    record {
      place = place;
      agree = λ k before.
          let within : k < len = omega arith in
          slice_get-truth_values first len k within ∙ (ap (λ (b : ℕ). Some (eqb b 1)) (same_bit first second index word same k before) ∙ sym (slice_get-truth_values second len k within));
      falsity = slice_get-truth_values first len place inside ∙ ap (λ (b : ℕ). Some (eqb b 1)) zero_bit;
      truth = slice_get-truth_values second len place inside ∙ ap (λ (b : ℕ). Some (eqb b 1)) one_bit;
    }

pub same_values : (first second : List ℕ) (len : ℕ) → IsPacked first len → IsPacked second len → ((k : ℕ) → k < length first → get_or first k 0 ≡ get_or second k 0) → truth_values first len ≡ truth_values second len
same_values first second len p q same =
    ap (λ (words : List ℕ). truth_values words len)
    (same_lists first second (omega (arith, p.size, q.size))
    (λ k d h. get_or_default first k d 0 h ∙ (same k h ∙ sym (get_or_default second k d 0 (omega (arith, p.size, q.size))))))

-- two lists of truth values of one length, by their words
module _ (first second : List ℕ) (m n : ℕ) (these those : List Bool) (mine : truth_values first m ≡ these) (theirs : truth_values second n ≡ those) (p : IsPacked first m) (q : IsPacked second n) (alike : length these ≡ length those) where
  same_len : m ≡ n
  same_len = omega (arith, length-truth_values first m, length-truth_values second n, ap (λ (l : List Bool). length l) mine, ap (λ (l : List Bool). length l) theirs)

  packed_alike : IsPacked second m
  packed_alike = rw same_len q

  theirs_alike : truth_values second m ≡ those
  theirs_alike = rw same_len theirs

  pub same_size : length first ≡ length second
  same_size = p.size ∙ sym packed_alike.size

  pub ComesBefore-at : (index : ℕ) → index < length first → ((k : ℕ) → k < index → get_or first k 0 ≡ get_or second k 0) → WordComesBefore (get_or first index 0) (get_or second index 0) → ComesBefore these those
  ComesBefore-at index low same word =
      rw (← mine, ← theirs_alike) (ComesBefore-word first second m index p packed_alike (omega (arith, same_size)) same word)

  pub ComesAfter-at : (index : ℕ) → index < length first → ((k : ℕ) → k < index → get_or first k 0 ≡ get_or second k 0) → WordComesBefore (get_or second index 0) (get_or first index 0) → ComesBefore those these
  ComesAfter-at index low same word =
      rw (← mine, ← theirs_alike) (ComesBefore-word second first m index packed_alike p low (λ k h. sym (same k h)) word)

  pub equal_values : ((k : ℕ) → k < length first → get_or first k 0 ≡ get_or second k 0) → these ≡ those
  equal_values same = sym mine ∙ (same_values first second m p packed_alike same ∙ theirs_alike)

-- two words that differ do so at the lowest 1 of their `^`
pub lowest_difference : (first second : ℕ) → first < 2 ^ 64 → second < 2 ^ 64 → first ≢ second → IsLowestDifference first second (trailing_zeros w64 (bit_xor first second))
lowest_difference first second f s ne =
    let differ : 0 < bit_xor first second = ⊎_elim (λ (h : 0 < bit_xor first second). h) (λ (h : bit_xor first second ≤ 0). absurd (ne (same_from_bits first second (λ i. same_where_zero first second i (rw (let z : bit_xor first second ≡ 0 = omega arith in z) (bit_at-zero i)))))) (cases_lt 0 (bit_xor first second)) in
    let t = bit_at-trailing_zeros w64 (bit_xor first second) differ (xor_lt 64 first second f s) in
    record {
      within = t.0;
      agree = λ k h. same_where_zero first second k (t.2 k h);
      unlike = sym (bit_at_xor first second (trailing_zeros w64 (bit_xor first second))) ∙ t.1;
    }

pub WordComesBefore-from : (first second bit : ℕ) → IsLowestDifference first second bit → bit_at first bit ≡ 0 → WordComesBefore first second
WordComesBefore-from first second bit d z = record {
  bit = bit;
  within = d.within;
  agree = d.agree;
  zero = z;
  one = omega (arith, d.unlike, bit_at-lt second bit);
}

pub WordComesBefore-swapped : (first second bit : ℕ) → IsLowestDifference first second bit → (bit_at first bit ≡ 0 → ⊥) → WordComesBefore second first
WordComesBefore-swapped first second bit d z = record {
  bit = bit;
  within = d.within;
  agree = λ k h. sym (d.agree k h);
  zero = omega (arith, d.unlike, z, bit_at-lt first bit, bit_at-lt second bit);
  one = omega (arith, z, bit_at-lt first bit);
}

pub SetsBit-or : (word bit : ℕ) → bit < 64 → SetsBit word (bit_or word (1 * 2 ^ bit % 2 ^ 64)) bit true
SetsBit-or word bit h = record {
  same = eq-eqb _ 1 (bit_at_set_same w64 word bit h);
  others = λ k _ ne. bit_at_set_other w64 word bit h k ne;
}

pub SetsBit-and : (word bit : ℕ) → bit < 64 → SetsBit word (bit_and word (2 ^ 64 - 1 - 1 * 2 ^ bit % 2 ^ 64)) bit false
SetsBit-and word bit h = record {
  same = rw (bit_at_clear_same w64 word bit h) refl;
  others = λ k inside ne. bit_at_clear_other w64 word bit h k inside ne;
}

pub ruleset fresh = (truth_values-fresh)
