-- Bounds of choices, by masks and by lists: the ones of a mask are as many as the members of the list for which it stands.
use Rattle.std.proofs.Common.{◌≡◌, ◌*◌, ◌^◌, ◌<◌, ℕ, zero, suc, Bool, true, false, not, ◌&&◌, ◌||◌, cond, eqb, List, [], ◌∷◌, length, get_or, map, refl, sym, ap, ◌∙◌, inl, inr, arith}
use Rattle.std.proofs.Math.Nat.{two-pow-succ}
use Rattle.std.specs.List.{list_any, list_all, filter, fold, range_with_len}
use Rattle.std.specs.Int.{bit_at}
use Rattle.std.specs.Int.RustNames.{bit_and, count_ones}
use Rattle.std.specs.Simd.Lanes.{mask_l}
use Rattle.std.proofs.lemmas.Simd.{bit_mask_l, ones-mask_l}
use Rattle.std.proofs.lemmas.Nat.{and_le_l}
use Rattle.std.proofs.lemmas.Nat.Bits.{and_pow, bit_at-zero}
use Rattle.std.proofs.lemmas.Bool.{eqb-true, cases_lt, false_from_ne_true}
use Rattle.std.proofs.lemmas.List.{get_or_past}
use Rattle.std.proofs.lemmas.List.Sums.{length-filter}
use Rattle.std.proofs.lemmas.List.FromFn.{length-map-range_with_len, get_or-map-range_with_len}
use Rattle.asp_defs.specs.declared.ground.Counted.{Counted}
use Rattle.asp_defs.specs.declared.ground.Bound.{Bound}
use Rattle.asp_defs.specs.Interpretations.{holds}
use Rattle.asp_defs.specs.Truth.{literals_true}
use Rattle.asp_defs.specs.Bounds.{counts, counted_atoms, is_at_least, is_at_most, meets as meets_list, meets_all as meets_all_lists}
use Rattle.asp_defs.specs.Games.{ascends}
use Rattle.asp_defs.proofs.Subsets.{filter-subset}
use Rattle.asp_defs.proofs.Fixing.{subset-ascends}
use Rattle.asp_bits.specs.Places.{true_from, true_places}
use Rattle.asp_reduct.proofs.Truths.{holds-true_places, ascends-true_from}
use Rattle.asp_plain.specs.Masks.{with_atom, mask_of}
use Rattle.asp_plain.specs.MaskedBounds.{masked_term, masked_bound, are_true, with_term, counted_in, meets, meets_all}
use Rattle.asp_plain.specs.Sets.{values_of}
use Rattle.asp_plain.proofs.Ascending.{same_ascending}
use Rattle.asp_plain.proofs.Atoms.{bit, same_masks, or_assoc, or_false, bit-and, bit-with_atom, all_of, none_of}
use Rattle.asp_plain.proofs.Standing.{holds-filter}

-- ---- the ones of a mask

lt_pow : (n : ℕ) → n < 2 ^ n
lt_pow zero = omega arith
lt_pow (suc n) = let below = lt_pow n in let double = two-pow-succ n in omega arith

-- a bit of a mask is below the mask
bit-below : (m a : ℕ) → bit m a ≡ true → a < m
bit-below m a h =
    let one = eqb-true (bit_at m a) 1 h in
    let power : bit_and m (2 ^ a) ≡ 1 * 2 ^ a = and_pow m a ∙ ap (λ x. x * 2 ^ a) one in
    let within = and_le_l m (2 ^ a) in
    let less = lt_pow a in
    omega arith

-- a mask's truth values tell its bits
values-bit : (m a : ℕ) → get_or (values_of m m) a false ≡ bit m a
values-bit m a = elim (cases_lt a m) [
  | inl less ↦ get_or-map-range_with_len (λ k. eqb (bit_at m k) 1) 0 m a a false less (omega arith)
  | inr past ↦
      get_or_past (values_of m m) a false (omega (arith, length-map-range_with_len (λ k. eqb (bit_at m k) 1) 0 m))
      ∙ sym (false_from_ne_true (bit m a) (λ h. let below = bit-below m a h in omega arith))
]

bit-cond : (t : Bool) → eqb (cond t 1 0) 1 ≡ t
bit-cond true = refl
bit-cond false = refl

-- so the mask is made of them
mask-values : (m : ℕ) → mask_l (values_of m m) ≡ m
mask-values m =
    same_masks (mask_l (values_of m m)) m (λ a.
    ap (λ x. eqb x 1) (bit_mask_l (values_of m m) a) ∙ (bit-cond (get_or (values_of m m) a false) ∙ values-bit m a))

-- the true places are as many as the values that are true
one_more : {X : Type 0} (t : Bool) (first : ℕ) (x : X) (values : List Bool) (ys : List X) → length (true_from (suc first) values) ≡ length ys → length (true_from first (t ∷ values)) ≡ length (cond t (x ∷ ys) ys)
one_more true first x values ys same = ap suc same
one_more false first x values ys same = same

length-true_from : {X : Type 0} (p : X → Bool) (first : ℕ) (xs : List X) → length (true_from first (map p xs)) ≡ length (filter p xs)
length-true_from p first [] = refl
length-true_from p first (x ∷ xs) = one_more (p x) first x (map p xs) (filter p xs) (length-true_from p (suc first) xs)

-- a mask has as many ones as an ascending list of its bits has members
pub ones-same : (J : List ℕ) (m : ℕ) → ascends J ≡ true → ((a : ℕ) → holds J a ≡ bit m a) → count_ones m ≡ length J
ones-same J m up marks =
    let places : true_places (values_of m m) ≡ J =
    same_ascending (true_places (values_of m m)) J (ascends-true_from 0 (values_of m m)) up (λ a.
    holds-true_places (values_of m m) a ∙ (values-bit m a ∙ sym (marks a))) in
    ap count_ones (sym (mask-values m))
    ∙ (ones-mask_l (bit m) (range_with_len 0 m)
    ∙ (sym (length-filter (bit m) (range_with_len 0 m))
    ∙ (sym (length-true_from (bit m) 0 (range_with_len 0 m)) ∙ ap (λ (I : List ℕ). length I) places)))

-- ---- counted terms

-- a list and its mask
module _ (I : List ℕ) (s : ℕ) (marks : (a : ℕ) → holds I a ≡ bit s a) where
  literals-same : (positive negative : List ℕ) → are_true s (mask_of positive) (mask_of negative) ≡ literals_true I positive negative
  literals-same positive negative =
      ap (λ t. t && eqb (bit_and (mask_of negative) s) 0) (all_of positive I s marks)
      ∙ ap (λ t. list_all (holds I) positive && t) (none_of negative I s marks)

  with_term-bit : (m a : ℕ) (c : Counted) → bit (with_term s m (masked_term c)) a ≡ (bit m a || counts I a c)
  with_term-bit m a c =
      go (are_true s (mask_of c.pos) (mask_of c.neg)) ∙ ap (λ t. bit m a || (eqb c.atom a && t)) (literals-same c.pos c.neg)
    where
      kept : (t : Bool) → t ≡ (t && true)
      kept true = refl
      kept false = refl

      dropped : (t u : Bool) → t ≡ (t || (u && false))
      dropped true u = refl
      dropped false true = refl
      dropped false false = refl

      go : (t : Bool) → bit (cond t (with_atom m c.atom) m) a ≡ (bit m a || (eqb c.atom a && t))
      go true = bit-with_atom m c.atom a ∙ ap (λ t. bit m a || t) (kept (eqb c.atom a))
      go false = dropped (bit m a) (eqb c.atom a)

  terms-bit : (cs : List Counted) (m a : ℕ) → bit (fold (with_term s) m (map masked_term cs)) a ≡ (bit m a || list_any (counts I a) cs)
  terms-bit [] m a = sym (or_false (bit m a))
  terms-bit (c ∷ cs) m a =
      terms-bit cs (with_term s m (masked_term c)) a
      ∙ (ap (λ t. t || list_any (counts I a) cs) (with_term-bit m a c) ∙ or_assoc (bit m a) (counts I a c) (list_any (counts I a) cs))

  counted-bit : (b : Bound) (a : ℕ) → holds (counted_atoms I b) a ≡ bit (counted_in s (map masked_term b.counted)) a
  counted-bit b a =
      holds-filter (λ a. list_any (counts I a) b.counted) I a
      ∙ (turned (holds I a) (list_any (counts I a) b.counted)
      ∙ (ap (λ t. list_any (counts I a) b.counted && t) (marks a)
      ∙ (ap (λ t. t && bit s a) (sym (ap (λ t. eqb t 1 || list_any (counts I a) b.counted) (bit_at-zero a)) ∙ sym (terms-bit b.counted 0 a))
      ∙ sym (bit-and (fold (with_term s) 0 (map masked_term b.counted)) s a))))
    where
      turned : (t u : Bool) → (t && u) ≡ (u && t)
      turned true true = refl
      turned true false = refl
      turned false true = refl
      turned false false = refl

  -- ---- bounds

  module _ (up : ascends I ≡ true) where
    count-same : (b : Bound) → count_ones (counted_in s (map masked_term b.counted)) ≡ length (counted_atoms I b)
    count-same b =
        ones-same (counted_atoms I b) (counted_in s (map masked_term b.counted))
        (subset-ascends I (counted_atoms I b) up (filter-subset (λ a. list_any (counts I a) b.counted) I)) (counted-bit b)

    meets-same : (b : Bound) → meets s (masked_bound b) ≡ meets_list I b
    meets-same b =
        ap (λ t. not t || (is_at_least b.low (count_ones (counted_in s (map masked_term b.counted))) && is_at_most b.high (count_ones (counted_in s (map masked_term b.counted)))))
        (literals-same b.pos b.neg)
        ∙ ap (λ n. not (literals_true I b.pos b.neg) || (is_at_least b.low n && is_at_most b.high n)) (count-same b)

    pub meets_all-same : (bounds : List Bound) → meets_all (map masked_bound bounds) s ≡ meets_all_lists I bounds
    meets_all-same [] = refl
    meets_all-same (b ∷ bounds) =
        ap (λ t. t && meets_all (map masked_bound bounds) s) (meets-same b)
        ∙ ap (λ t. meets_list I b && t) (meets_all-same bounds)
