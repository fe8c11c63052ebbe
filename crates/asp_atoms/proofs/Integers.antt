-- The integers of intervals: which they are, that they ascend, and intervals that are put apart.
use Rattle.std.proofs.Common.{ℕ, zero, suc, ◌≡◌, refl, sym, ◌∙◌, ap, subst, inl, inr, Bool, true, false, cond, List, [], ◌∷◌, ◌++◌, length, arith, ℤ, pos, negsuc, ◌+ℤ◌, ◌-ℤ◌, ◌≤ℤ◌, ◌<ℤ◌, int_lt, ◌+◌, ◌<◌, get_or}
use Rattle.std.specs.Prelude.{IsPermutation, IsSorted}
use Rattle.std.proofs.lemmas.List.Concat.{flat_map-append}
use Rattle.std.proofs.lemmas.List.Sorted.{Contains-permutation, IsPermutation-sym}
use Rattle.std.specs.Int.{int_max}
use Rattle.std.specs.Ordering.{int_cmp, is_lt, ordering_then}
use Rattle.std.specs.declared.cmp.Ordering.{Ordering}
use Rattle.std.specs.declared.cmp.Ordering.TheVariants.{Less}
use Rattle.std.specs.Cmp.{int_cmp_is}
use Rattle.std.proofs.lemmas.Int.{ints, clamps, by_lt_z}
use Rattle.asp_defs.specs.Lists.{IsIn}
use Rattle.asp_defs.specs.Constants.{integers_from, interval_length, interval, distinct}
use Rattle.asp_defs.proofs.Lists.{append_at, append_left, append_right}
use Rattle.asp_walk.proofs.Lists.{flat_at, flat_from}
use Rattle.asp_atoms.specs.declared.intervals.Interval.{Interval}
use Rattle.asp_atoms.specs.Universes.{between, integers, integers_of}
use Rattle.asp_atoms.specs.Gaps.{apart_at, free_behind, apart_from, first_low}
use Rattle.asp_atoms.specs.Ascending.{Ascends}
use Rattle.asp_atoms.proofs.Orders.{int_lawful}
use Rattle.asp_atoms.proofs.Ascending.{above_from, ascends_append, distinct_is}
use Rattle.asp_atoms.proofs.Settled.{contains_in, in_contains}

-- ---- integers from one on

record Between (low : ℤ) (high : ℤ) (z : ℤ) : Type 0 where
  lower : low ≤ℤ z
  upper : z <ℤ high

in_from : (low : ℤ) (count : ℕ) (z : ℤ) → IsIn z (integers_from low count) → Between low (low +ℤ pos count) z
in_from low zero z i = absurd i
in_from low (suc count) z (inl e) = record {
  lower = subst (λ w. low ≤ℤ w) (sym e) (omega (arith, ints));
  upper = subst (λ w. w <ℤ (low +ℤ pos (suc count))) (sym e) (omega (arith, ints));
}
in_from low (suc count) z (inr i) =
    let h = in_from (low +ℤ pos 1) count z i in
    let l = h.lower in
    let u = h.upper in
    record { lower = omega (arith, ints); upper = omega (arith, ints) }

from_in : (low : ℤ) (count : ℕ) (z : ℤ) → low ≤ℤ z → z <ℤ (low +ℤ pos count) → IsIn z (integers_from low count)
from_in low zero z l u = absurd (omega (arith, ints))
from_in low (suc count) z l u =
    by_lt_z low z
    (λ above. inr (from_in (low +ℤ pos 1) count z (omega (arith, ints)) (omega (arith, ints))))
    (λ le. inl (omega (arith, ints)))

below : (x y : ℤ) → x <ℤ y → int_cmp x y ≡ Less
below x y h = sym (int_cmp_is x y Less h)

ascends_integers : (low : ℤ) (count : ℕ) → Ascends int_cmp (integers_from low count)
ascends_integers low zero = tt
ascends_integers low (suc count) = (
  above_from int_cmp low (integers_from (low +ℤ pos 1) count)
      (λ z i. let h = in_from (low +ℤ pos 1) count z i in let l = h.lower in below low z (omega (arith, ints))),
  ascends_integers (low +ℤ pos 1) count,
)

-- ---- an interval

abbrev span : ℤ → ℕ
span d = elim d [ pos gap ↦ suc gap | negsuc under ↦ zero ]

-- an interval ends at its high end
ends_at : (low high d : ℤ) → high -ℤ low ≡ d → low ≤ℤ high → low +ℤ pos (span d) ≡ high +ℤ pos 1
ends_at low high (pos gap) e h = omega (arith, ints)
ends_at low high (negsuc under) e h = absurd (omega (arith, ints))

-- swapped ends have nothing between them
swapped_at : (low high d : ℤ) → high -ℤ low ≡ d → high <ℤ low → span d ≡ 0
swapped_at low high (pos gap) e h = absurd (omega (arith, ints))
swapped_at low high (negsuc under) e h = refl

pub ends : (low high : ℤ) → low ≤ℤ high → low +ℤ pos (interval_length low high) ≡ high +ℤ pos 1
ends low high h = ends_at low high (high -ℤ low) refl h

pub swapped : (low high : ℤ) → high <ℤ low → interval_length low high ≡ 0
swapped low high h = swapped_at low high (high -ℤ low) refl h

pub record Within (low high z : ℤ) : Type 0 where
  pub lower : low ≤ℤ z
  pub upper : z ≤ℤ high

in_interval : (low high z : ℤ) → IsIn z (interval low high) → Within low high z
in_interval low high z i =
    by_lt_z high low
    (λ turned. absurd (subst (λ n. IsIn z (integers_from low n)) (swapped low high turned) i))
    (λ le.
    let h = in_from low (interval_length low high) z i in
    let l = h.lower in
    let u = h.upper in
    let e = ends low high le in
    record { lower = l; upper = omega (arith, ints, e) })

from_interval : (low high z : ℤ) → low ≤ℤ z → z ≤ℤ high → IsIn z (interval low high)
from_interval low high z l u =
    let le : low ≤ℤ high = omega (arith, ints) in
    let e = ends low high le in
    from_in low (interval_length low high) z l (omega (arith, ints, e))

pub in_range : (low high : ℤ) (k : ℕ) → k < interval_length low high → (low +ℤ pos k) ≤ℤ high
in_range low high k h =
    by_lt_z high low
    (λ turned. let none = swapped low high turned in absurd (omega (arith, h, none)))
    (λ le. let e = ends low high le in omega (arith, ints, h, e))

-- ---- members of intervals

in_first : (x : Interval) (xs : List Interval) (z : ℤ) → IsIn z (integers x) → IsIn z (integers_of (x ∷ xs))
in_first x xs z i = append_left (integers x) (integers_of xs) z i

in_rest : (x : Interval) (xs : List Interval) (z : ℤ) → IsIn z (integers_of xs) → IsIn z (integers_of (x ∷ xs))
in_rest x xs z i = append_right (integers x) (integers_of xs) z i

-- ---- intervals whose low ends ascend

abbrev pub LowsFrom : ℤ → List Interval → Type 0
LowsFrom low [] = Unit {0}
LowsFrom low (x ∷ xs) = (low ≤ℤ x.low) × LowsFrom x.low xs

from_low : (low : ℤ) (xs : List Interval) → LowsFrom low xs → (z : ℤ) → IsIn z (integers_of xs) → low ≤ℤ z
from_low low [] h z i = absurd i
from_low low (x ∷ xs) h z i = elim (append_at (integers x) (integers_of xs) z i) [
  | inl j ↦ let w = in_interval x.low x.high z j in let l = w.lower in let g = h.0 in omega (arith, ints)
  | inr j ↦ let l = from_low x.low xs h.1 z j in let g = h.0 in omega (arith, ints)
]

-- ---- an interval from a free integer on

max_left : (x y : ℤ) → x ≤ℤ int_max x y
max_left x y = omega (arith, ints, clamps)

max_right : (x y : ℤ) → y ≤ℤ int_max x y
max_right x y = omega (arith, ints, clamps)

max_one : (x y z : ℤ) → x ≤ℤ z → y ≤ℤ z → int_max x y ≤ℤ z
max_one x y z h g = omega (arith, ints, clamps)

max_below : (x y z : ℤ) → z <ℤ int_max x y → x ≤ℤ z → z <ℤ y
max_below x y z h g = omega (arith, ints, clamps)

pub lt_true : (x y : ℤ) → x <ℤ y → int_lt x y ≡ true
lt_true x y h = grind (arith, ints)

pub lt_false : (x y : ℤ) → y ≤ℤ x → int_lt x y ≡ false
lt_false x y h = grind (arith, ints)

abbrev pub piece : Bool → ℤ → ℤ → List Interval
piece b low high = cond b [] (between low high ∷ [])

record Piece (free : ℤ) (x : Interval) (z : ℤ) : Type 0 where
  above : free ≤ℤ z
  lower : x.low ≤ℤ z
  upper : z ≤ℤ x.high

in_apart_at : (free : ℤ) (x : Interval) (z : ℤ) → IsIn z (integers_of (apart_at free x)) → Piece free x z
in_apart_at free x z i = go (int_lt x.high (int_max free x.low)) i
  where
    go : (b : Bool) → IsIn z (integers_of (piece b (int_max free x.low) x.high)) → Piece free x z
    go true j = absurd j
    go false j = elim (append_at (interval (int_max free x.low) x.high) [] z j) [
      | inl k ↦
          let w = in_interval (int_max free x.low) x.high z k in
          let l = w.lower in
          let a = max_left free x.low in
          let b = max_right free x.low in
          record { above = omega (arith, ints); lower = omega (arith, ints); upper = w.upper }
      | inr k ↦ absurd k
    ]

from_apart_at : (free : ℤ) (x : Interval) (z : ℤ) → free ≤ℤ z → x.low ≤ℤ z → z ≤ℤ x.high → IsIn z (integers_of (apart_at free x))
from_apart_at free x z f l u =
    let low : int_max free x.low ≤ℤ z = max_one free x.low z f l in
    let wide : int_lt x.high (int_max free x.low) ≡ false = lt_false x.high (int_max free x.low) (omega (arith, ints)) in
    subst (λ b. IsIn z (integers_of (piece b (int_max free x.low) x.high))) (sym wide)
    (append_left (interval (int_max free x.low) x.high) [] z (from_interval (int_max free x.low) x.high z low u))

ascends_apart_at : (free : ℤ) (x : Interval) → Ascends int_cmp (integers_of (apart_at free x))
ascends_apart_at free x = go (int_lt x.high (int_max free x.low))
  where
    go : (b : Bool) → Ascends int_cmp (integers_of (piece b (int_max free x.low) x.high))
    go true = tt
    go false =
        ascends_append int_lawful (interval (int_max free x.low) x.high) []
        (ascends_integers (int_max free x.low) (interval_length (int_max free x.low) x.high)) tt (λ a b i j. absurd j)

-- ---- intervals that are put apart

split_apart : (free : ℤ) (x : Interval) (xs : List Interval) → integers_of (apart_from free (x ∷ xs)) ≡ integers_of (apart_at free x) ++ integers_of (apart_from (free_behind free x) xs)
split_apart free x xs = flat_map-append integers (apart_at free x) (apart_from (free_behind free x) xs)

record Kept (free : ℤ) (xs : List Interval) (z : ℤ) : Type 0 where
  above : free ≤ℤ z
  there : IsIn z (integers_of xs)

in_apart : (free : ℤ) (xs : List Interval) (z : ℤ) → IsIn z (integers_of (apart_from free xs)) → Kept free xs z
in_apart free [] z i = absurd i
in_apart free (x ∷ xs) z i = elim (append_at (integers_of (apart_at free x)) (integers_of (apart_from (free_behind free x) xs)) z (subst (λ l. IsIn z l) (split_apart free x xs) i)) [
  | inl j ↦
      let p = in_apart_at free x z j in
      record { above = p.above; there = in_first x xs z (from_interval x.low x.high z p.lower p.upper) }
  | inr j ↦
      let k = in_apart (free_behind free x) xs z j in
      let a = max_left free (x.high +ℤ pos 1) in
      let f = k.above in
      record { above = omega (arith, ints); there = in_rest x xs z k.there }
]

from_apart : (free low : ℤ) (xs : List Interval) → LowsFrom low xs → (z : ℤ) → free ≤ℤ z → IsIn z (integers_of xs) → IsIn z (integers_of (apart_from free xs))
from_apart free low [] h z f i = absurd i
from_apart free low (x ∷ xs) h z f i =
    subst (λ l. IsIn z l) (sym (split_apart free x xs)) (elim (append_at (integers x) (integers_of xs) z i) [
      | inl j ↦ let w = in_interval x.low x.high z j in here w.lower w.upper
      | inr j ↦
          by_lt_z z (free_behind free x)
          (λ lt.
          let under = max_below free (x.high +ℤ pos 1) z lt f in
          here (from_low x.low xs h.1 z j) (omega (arith, ints, under)))
          (λ le. append_right (integers_of (apart_at free x)) (integers_of (apart_from (free_behind free x) xs)) z
          (from_apart (free_behind free x) x.low xs h.1 z le j))
    ])
  where
    here : x.low ≤ℤ z → z ≤ℤ x.high → IsIn z (integers_of (apart_at free x) ++ integers_of (apart_from (free_behind free x) xs))
    here l u = append_left (integers_of (apart_at free x)) (integers_of (apart_from (free_behind free x) xs)) z (from_apart_at free x z f l u)

ascends_apart : (free : ℤ) (xs : List Interval) → Ascends int_cmp (integers_of (apart_from free xs))
ascends_apart free [] = tt
ascends_apart free (x ∷ xs) =
    subst (Ascends int_cmp) (sym (split_apart free x xs))
    (ascends_append int_lawful (integers_of (apart_at free x)) (integers_of (apart_from (free_behind free x) xs))
    (ascends_apart_at free x) (ascends_apart (free_behind free x) xs)
    (λ a b i j.
    let p = in_apart_at free x a i in
    let k = in_apart (free_behind free x) xs b j in
    let u = p.upper in
    let f = k.above in
    let g = max_right free (x.high +ℤ pos 1) in
    below a b (omega (arith, ints))))

-- ---- low ends that ascend after a sort

abbrev cmp_intervals : Interval → Interval → Ordering
cmp_intervals x y = ordering_then (int_cmp x.low y.low) (int_cmp x.high y.high)

not_less : (x y : Interval) → is_lt (cmp_intervals y x) ≡ false → x.low ≤ℤ y.low
not_less x y e =
    by_lt_z y.low x.low
    (λ lt.
    let less : cmp_intervals y x ≡ Less = ap (λ o. ordering_then o (int_cmp y.high x.high)) (below y.low x.low lt) in
    let bad : true ≡ false = sym (ap is_lt less) ∙ e in
    absurd (cc))
    (λ le. le)

abbrev Rises : List Interval → Type 0
Rises xs = (i j : ℕ) (d : Interval) → j ≡ i + 1 → j < length xs → is_lt (cmp_intervals (get_or xs j d) (get_or xs i d)) ≡ false

rising : (xs : List Interval) → IsSorted cmp_intervals xs → Rises xs
rising xs sorted i j d e h =
    subst (λ k. is_lt (cmp_intervals (get_or xs k d) (get_or xs i d)) ≡ false) (sym e)
    (sorted i d (omega arith) (omega (arith, e, h)))

lows : (x : Interval) (xs : List Interval) → Rises (x ∷ xs) → LowsFrom x.low xs
lows x [] h = tt
lows x (y ∷ ys) h = (
  not_less x y (h 0 1 x (omega arith) (omega arith)),
  lows y ys (λ i j d e g. h (suc i) (suc j) d (omega (arith, e)) (omega (arith, g))),
)

-- ---- intervals that are sorted and put apart have the distinct integers

sorted_apart : (ys xs : List Interval) → IsPermutation ys xs → (free low : ℤ) → LowsFrom low xs → ((z : ℤ) → IsIn z (integers_of xs) → free ≤ℤ z) → integers_of (apart_from free xs) ≡ distinct int_cmp (integers_of ys)
sorted_apart ys xs moved free low h least =
    distinct_is int_lawful (integers_of ys) (integers_of (apart_from free xs)) (ascends_apart free xs) (record { whole = whole; within = within })
  where
    across : (us vs : List Interval) → IsPermutation us vs → (z : ℤ) → IsIn z (integers_of us) → IsIn z (integers_of vs)
    across us vs move z i =
        let found = flat_at integers us z i in
        let there : IsIn found.0 vs = contains_in vs found.0 (Contains-permutation us vs found.0 move (in_contains us found.0 found.1)) in
        flat_from integers vs found.0 z there found.2

    whole : (z : ℤ) → IsIn z (integers_of ys) → IsIn z (integers_of (apart_from free xs))
    whole z i = let j = across ys xs moved z i in from_apart free low xs h z (least z j) j

    within : (z : ℤ) → IsIn z (integers_of (apart_from free xs)) → IsIn z (integers_of ys)
    within z i = let k = in_apart free xs z i in across xs ys (IsPermutation-sym ys xs moved) z k.there

pub apart_is : (ys xs : List Interval) → IsPermutation ys xs → IsSorted cmp_intervals xs → integers_of (apart_from (first_low xs) xs) ≡ distinct int_cmp (integers_of ys)
apart_is ys [] moved sorted = sorted_apart ys [] moved (pos 0) (pos 0) tt (λ z i. absurd i)
apart_is ys (x ∷ xs) moved sorted =
    let h : LowsFrom x.low (x ∷ xs) = (omega (arith, ints), lows x xs (rising (x ∷ xs) sorted)) in
    sorted_apart ys (x ∷ xs) moved x.low x.low h (from_low x.low (x ∷ xs) h)

-- ---- counting and listing

pub length_integers : (low : ℤ) (count : ℕ) → length (integers_from low count) ≡ count
length_integers low zero = refl
length_integers low (suc count) = let rest = length_integers (low +ℤ pos 1) count in omega (arith, rest)

pub length_interval : (x : Interval) → length (integers x) ≡ interval_length x.low x.high
length_interval x = length_integers x.low (interval_length x.low x.high)

pub integers_more : (low : ℤ) (count : ℕ) → integers_from low (count + 1) ≡ integers_from low count ++ (low +ℤ pos count) ∷ []
integers_more low zero =
    let e : low +ℤ pos 0 ≡ low = omega (arith, ints) in ap (λ z. z ∷ []) (sym e)
integers_more low (suc count) =
    let more : suc count + 1 ≡ suc (count + 1) = omega arith in
    let e : (low +ℤ pos 1) +ℤ pos count ≡ low +ℤ pos (suc count) = omega (arith, ints) in
    ap (integers_from low) more
    ∙ (ap (λ zs. low ∷ zs) (integers_more (low +ℤ pos 1) count)
    ∙ ap (λ z. low ∷ (integers_from (low +ℤ pos 1) count ++ z ∷ [])) e)
