-- Places that are marked in a list of truth values.
use Rattle.std.proofs.Common.{◌≡◌, ◌≢◌, refl, sym, ap, ◌∙◌, subst, ℕ, zero, suc, ◌+◌, ◌<◌, ◌≤◌, ◌||◌, inl, inr, Bool, true, false, List, [], ◌∷◌, ◌++◌, length, get_or, set, take, replicate, arith}
use Rattle.std.specs.Prelude.{slice_set}
use Rattle.std.proofs.lemmas.Bool.{cases_eq, cases_lt}
use Rattle.std.proofs.lemmas.List.{length-set, get_or-set_same, get_or-set_other, get_or_past, take_more, take_all, length-replicate}
use Rattle.asp_bits.specs.Places.{true_from, true_places}
use Rattle.asp_defs.specs.declared.ground.Bound.{Bound}
use Rattle.asp_defs.specs.Bounds.{counts, counted_atoms}
use Rattle.asp_defs.specs.Interpretations.{holds}
use Rattle.asp_defs.specs.Lists.{IsIn}
use Rattle.asp_defs.proofs.Lists.{append_at, append_left, append_right, filter_at, or_left, or_right}
use Rattle.asp_defs.proofs.Subsets.{true_is_not_false, holds_from}
use Rattle.asp_reduct.proofs.Truths.{holds-true_places, get_or-member}
use Rattle.std.specs.List.{list_any}
use Rattle.asp_bounds.specs.Denials.{ArePlaces}

pub marked-same : (values : List Bool) (p : ℕ) (value : Bool) → p < length values → holds (true_places (slice_set values p value)) p ≡ value
marked-same values p value h = holds-true_places (set values p value) p ∙ get_or-set_same values p value false h

pub marked-other : (values : List Bool) (p a : ℕ) (value : Bool) → a ≢ p
    → holds (true_places (slice_set values p value)) a ≡ holds (true_places values) a
marked-other values p a value other =
    holds-true_places (set values p value) a ∙ (get_or-set_other values p a value false other ∙ sym (holds-true_places values a))

pub fits_in : (a m n : ℕ) → a < m → n ≡ m → a < n
fits_in a m n h e = omega arith

-- a true place is one of the list
place-below : (values : List Bool) (a : ℕ) → holds (true_places values) a ≡ true → a < length values
place-below values a h = elim (cases_lt a (length values)) [
  | inl low ↦ low
  | inr past ↦ absurd (true_is_not_false (get_or values a false) (sym (holds-true_places values a) ∙ h) (get_or_past values a false past))
]

-- what a bound counts are places of the interpretation
pub counted-below : (values : List Bool) (b : Bound) (a : ℕ) → IsIn a (counted_atoms (true_places values) b) → a < length values
counted-below values b a i =
    place-below values a (holds_from (true_places values) a ((filter_at (λ x. list_any (counts (true_places values) x) b.counted) (true_places values) a i).0))

-- no place is true where nothing is
blank-from : (first n : ℕ) → true_from first (replicate n false) ≡ []
blank-from first zero = refl
blank-from first (suc n) = blank-from (suc first) n

pub places-none : (count : ℕ) (marks : List Bool) → marks ≡ replicate count false → ArePlaces count [] marks
places-none count marks is = subst (λ (ms : List Bool). ArePlaces count [] ms) (sym is) (record {
  as_many = length-replicate count false;
  there = λ a i. absurd i;
  alone = λ a h. absurd (true_is_not_false (holds (true_places (replicate count false)) a) h (ap (λ (ps : List ℕ). holds ps a) (blank-from 0 count)));
})

-- one atom more
pub places-more : (count : ℕ) (atoms : List ℕ) (k : ℕ) (marks later : List Bool) → k < length atoms → ((a : ℕ) → IsIn a atoms → a < count)
    → later ≡ slice_set marks (get_or atoms k 0) true → ArePlaces count (take k atoms) marks → ArePlaces count (take (k + 1) atoms) later
places-more count atoms k marks later h below is places =
    let p : ℕ = get_or atoms k 0 in
    let fits : p < length marks = fits_in p count (length marks) (below p (get_or-member atoms k 0 h)) places.as_many in
    let more : take (k + 1) atoms ≡ take k atoms ++ p ∷ [] = take_more atoms k 0 h in
    subst (λ (ms : List Bool). ArePlaces count (take (k + 1) atoms) ms) (sym is)
    (subst (λ (xs : List ℕ). ArePlaces count xs (slice_set marks p true)) (sym more)
    (record {
      as_many = length-set marks p true ∙ places.as_many;
      there = λ a i.
          elim (cases_eq a p) [
            | inl same ↦ ap (holds (true_places (slice_set marks p true))) same ∙ marked-same marks p true fits
            | inr other ↦ marked-other marks p a true other ∙ elim (append_at (take k atoms) (p ∷ []) a i) [
              | inl before ↦ places.there a before
              | inr here ↦ elim here [
                | inl e ↦ absurd (other e)
                | inr none ↦ absurd none
              ]
            ]
          ];
      alone = λ a on.
          elim (cases_eq a p) [
            | inl same ↦ append_right (take k atoms) (p ∷ []) a (inl same)
            | inr other ↦ append_left (take k atoms) (p ∷ []) a (places.alone a (sym (marked-other marks p a true other) ∙ on))
          ];
    }))

pub places-all : (count : ℕ) (atoms : List ℕ) (k : ℕ) (marks : List Bool) → length atoms ≤ k → ArePlaces count (take k atoms) marks → ArePlaces count atoms marks
places-all count atoms k marks past places = subst (λ (xs : List ℕ). ArePlaces count xs marks) (take_all k atoms past) places

-- a term that counts, or whose atom is settled
pub skipped-settled : (s c : Bool) → s ≡ true → (s || c) ≡ true
skipped-settled s c h = or_left s c h

pub skipped-counts : (s c : Bool) → c ≡ true → (s || c) ≡ true
skipped-counts s c h = or_right s c h
