-- Places that are marked in a list of truth values.
use Rattle.std.proofs.Common.{◌≡◌, refl, sym, ap, ◌∙◌, subst, ℕ, zero, suc, ◌+◌, ◌<◌, ◌≤◌, inl, inr, Bool, true, false, ◌&&◌, ◌||◌, eqb, List, [], ◌∷◌, ◌++◌, length, get_or, set, take, replicate, nat_lt, arith}
use Rattle.std.specs.Prelude.{slice_set}
use Rattle.std.proofs.lemmas.Bool.{cases_eq, cases_lt, eq-eqb, ne_eqb, or_left, ltb-true}
use Rattle.std.proofs.lemmas.List.{length-set, get_or-set_same, get_or-set_other, get_or_past, take_more, take_all, length-replicate}
use Rattle.std.proofs.lemmas.List.Folds.{list_any-append}
use Rattle.asp_bits.specs.Places.{true_from, true_places}
use Rattle.asp_reduct.specs.Bounds.{are_below}
use Rattle.asp_reduct.proofs.Truths.{holds-true_places, get_or-member}
use Rattle.asp_defs.specs.Interpretations.{holds}
use Rattle.asp_defs.proofs.Lists.{all_at}
use Rattle.asp_defs.proofs.Subsets.{true_is_not_false}
use Rattle.asp_entry.specs.Marks.{IsPlaces, Marks}

-- ---- one place

pub same_number : (p a : ℕ) → eqb p a ≡ true → p ≡ a
same_number p a h = elim (cases_eq p a) [
  | inl e ↦ e
  | inr n ↦ absurd (true_is_not_false (eqb p a) h (ne_eqb p a n))
]

-- the true places with one more
pub holds-set : (values : List Bool) (p a : ℕ) → p < length values → holds (true_places (set values p true)) a ≡ (eqb p a || holds (true_places values) a)
holds-set values p a h = elim (cases_eq p a) [
  | inl e ↦
      holds-true_places (set values p true) a
      ∙ (ap (λ q. get_or (set values q true) a false) e
      ∙ (get_or-set_same values a true false (omega (arith, h, e))
      ∙ sym (or_left (eqb p a) (holds (true_places values) a) (eq-eqb p a e))))
  | inr n ↦
      holds-true_places (set values p true) a
      ∙ (get_or-set_other values p a true false (λ e. n (sym e))
      ∙ (sym (holds-true_places values a)
      ∙ sym (ap (λ t. t || holds (true_places values) a) (ne_eqb p a n))))
]

-- no place is true where nothing is
blank-from : (first n : ℕ) → true_from first (replicate n false) ≡ []
blank-from first zero = refl
blank-from first (suc n) = blank-from (suc first) n

pub blank : (n a : ℕ) → holds (true_places (replicate n false)) a ≡ false
blank n a = ap (λ I. holds I a) (blank-from 0 n)

-- ---- marks

marked : (t h b : Bool) → (t ≡ true → b ≡ true) → (t || h) ≡ (h || (b && (t || false)))
marked true true true k = refl
marked true false true k = refl
marked true h false k = let never : false ≡ true = k refl in absurd (cc)
marked false true b k = refl
marked false false true k = refl
marked false false false k = refl

skipped : (t h b : Bool) → (t ≡ true → b ≡ false) → h ≡ (h || (b && (t || false)))
skipped true true b k = refl
skipped true false true k = let never : true ≡ false = k refl in absurd (cc)
skipped true false false k = refl
skipped false true b k = refl
skipped false false true k = refl
skipped false false false k = refl

-- one atom that passes is marked, and one that fails isn't
pub marks_set : (test : ℕ → Bool) (p : ℕ) (before now : List Bool) → p < length before → test p ≡ true → now ≡ slice_set before p true → Marks test (p ∷ []) before now
marks_set test p before now h passes is = record {
  as_many = ap length is ∙ length-set before p true;
  each = λ a.
      ap (λ values. holds (true_places values) a) is
      ∙ (holds-set before p a h
      ∙ marked (eqb p a) (holds (true_places before) a) (test a) (λ e. subst (λ (q : ℕ). test q ≡ true) (same_number p a e) passes));
}

pub marks_skip : (test : ℕ → Bool) (p : ℕ) (before now : List Bool) → test p ≡ false → now ≡ before → Marks test (p ∷ []) before now
marks_skip test p before now fails is = record {
  as_many = ap length is;
  each = λ a.
      ap (λ values. holds (true_places values) a) is
      ∙ skipped (eqb p a) (holds (true_places before) a) (test a) (λ e. subst (λ (q : ℕ). test q ≡ false) (same_number p a e) fails);
}

together : (h b x y : Bool) → ((h || (b && x)) || (b && y)) ≡ (h || (b && (x || y)))
together true b x y = refl
together false true true y = refl
together false true false y = refl
together false false x y = refl

-- some atoms, and then others
pub marks_then : (test : ℕ → Bool) (xs ys : List ℕ) (before middle now : List Bool) → Marks test xs before middle → Marks test ys middle now → Marks test (xs ++ ys) before now
marks_then test xs ys before middle now first second = record {
  as_many = second.as_many ∙ first.as_many;
  each = λ a.
      second.each a
      ∙ (ap (λ t. t || (test a && holds ys a)) (first.each a)
      ∙ (together (holds (true_places before) a) (test a) (holds xs a) (holds ys a)
      ∙ sym (ap (λ t. holds (true_places before) a || (test a && t)) (list_any-append (λ b. eqb b a) xs ys))));
}

-- one more atom of a list
pub marks_more : (test : ℕ → Bool) (atoms : List ℕ) (i d : ℕ) (before middle now : List Bool) → i < length atoms → Marks test (take i atoms) before middle → Marks test (get_or atoms i d ∷ []) middle now → Marks test (take (i + 1) atoms) before now
marks_more test atoms i d before middle now h first second =
    subst (λ (xs : List ℕ). Marks test xs before now) (sym (take_more atoms i d h))
    (marks_then test (take i atoms) (get_or atoms i d ∷ []) before middle now first second)

-- the atoms up to the end are all
pub marks_all : (test : ℕ → Bool) (atoms : List ℕ) (i : ℕ) (before now : List Bool) → length atoms ≤ i → Marks test (take i atoms) before now → Marks test atoms before now
marks_all test atoms i before now h marks = subst (λ (xs : List ℕ). Marks test xs before now) (take_all i atoms h) marks

-- one more place of a list
pub places_more : (atoms : List ℕ) (i d count : ℕ) (before middle now : List Bool) → i < length atoms → are_below count atoms ≡ true → before ≡ replicate count false
    → Marks (λ a. true) (take i atoms) before middle → now ≡ slice_set middle (get_or atoms i d) true → Marks (λ a. true) (take (i + 1) atoms) before now
places_more atoms i d count before middle now h below blank_is marks is =
    let low = ltb-true (get_or atoms i d) count (all_at (λ a. nat_lt a count) atoms (get_or atoms i d) below (get_or-member atoms i d h)) in
    let as_many : length middle ≡ count = marks.as_many ∙ (ap length blank_is ∙ length-replicate count false) in
    marks_more (λ a. true) atoms i d before middle now h marks
    (marks_set (λ a. true) (get_or atoms i d) middle now (omega (arith, low, as_many)) refl is)

-- the marks of all atoms beside none
pub places_are : (atoms : List ℕ) (count : ℕ) (before now : List Bool) → before ≡ replicate count false → Marks (λ a. true) atoms before now → IsPlaces atoms count now
places_are atoms count before now is marks = record {
  as_many = marks.as_many ∙ (ap length is ∙ length-replicate count false);
  each = λ a. marks.each a ∙ ap (λ t. t || holds atoms a) (ap (λ values. holds (true_places values) a) is ∙ blank count a);
}

-- a place that is true is one that there is
pub true-within : (values : List Bool) (a : ℕ) → holds (true_places values) a ≡ true → a < length values
true-within values a h = elim (cases_lt a (length values)) [
  | inl low ↦ low
  | inr high ↦ absurd (true_is_not_false (holds (true_places values) a) h (holds-true_places values a ∙ get_or_past values a false high))
]
