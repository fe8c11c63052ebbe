-- The order of truth values of one length is the order of their sets of true places.
use Rattle.std.proofs.Common.{◌≡◌, ℕ, zero, suc, ◌<◌, Some, Bool, true, false, List, [], ◌∷◌, length, get_or, refl, sym, ap, ◌∙◌, arith}
use Rattle.std.specs.List.{slice_get}
use Rattle.asp_bits.specs.Order.{ComesBefore}
use Rattle.asp_bits.specs.Places.{true_places}
use Rattle.asp_defs.specs.Laws.{FirstDifference}
use Rattle.asp_defs.proofs.SubsetLaws.{difference_at, after_difference}
use Rattle.asp_reduct.specs.Laws.{OrdersAreOne}
use Rattle.asp_reduct.proofs.Truths.{holds-true_places, holds-read, ascends-true_from}

-- what is read at a place that there is
read_within : (values : List Bool) (k : ℕ) → k < length values → slice_get values k ≡ Some (get_or values k false)
read_within [] k h = absurd (omega arith)
read_within (v ∷ values) zero h = refl
read_within (v ∷ values) (suc k) h = read_within values k (omega arith)

-- a place that is true is one that there is
true_within : (values : List Bool) (k : ℕ) → get_or values k false ≡ true → k < length values
true_within [] k h = absurd (cc)
true_within (v ∷ values) zero h = omega arith
true_within (v ∷ values) (suc k) h = let rest = true_within values k h in omega arith

-- what reads the same has the same value
same_value : (first second : List Bool) (k : ℕ) → slice_get first k ≡ slice_get second k → get_or first k false ≡ get_or second k false
same_value [] [] k e = refl
same_value [] (w ∷ second) zero e = absurd (cc)
same_value [] (w ∷ second) (suc k) e = same_value [] second k e
same_value (v ∷ first) [] zero e = absurd (cc)
same_value (v ∷ first) [] (suc k) e = same_value first [] k e
same_value (v ∷ first) (w ∷ second) zero e = cc
same_value (v ∷ first) (w ∷ second) (suc k) e = same_value first second k e

module _ (first second : List Bool) (same_length : length first ≡ length second) where
  difference : ComesBefore first second → FirstDifference (true_places first) (true_places second)
  difference h = record {
    atom = h.place;
    here = holds-read second h.place true h.truth;
    not_there = holds-read first h.place false h.falsity;
    same_before = λ c low.
        holds-true_places first c ∙ (same_value first second c (h.agree c low) ∙ sym (holds-true_places second c));
  }

  before : FirstDifference (true_places first) (true_places second) → ComesBefore first second
  before d =
      let truth : get_or second d.atom false ≡ true = sym (holds-true_places second d.atom) ∙ d.here in
      let falsity : get_or first d.atom false ≡ false = sym (holds-true_places first d.atom) ∙ d.not_there in
      let inside : d.atom < length second = true_within second d.atom truth in
      record {
        place = d.atom;
        agree = λ k low.
            read_within first k (omega (arith, low, inside, same_length))
            ∙ (ap Some (sym (holds-true_places first k) ∙ (d.same_before k low ∙ holds-true_places second k))
            ∙ sym (read_within second k (omega (arith, low, inside))));
        falsity = read_within first d.atom (omega (arith, inside, same_length)) ∙ ap Some falsity;
        truth = read_within second d.atom inside ∙ ap Some truth;
      }

pub orders_are_one : OrdersAreOne
orders_are_one first second same_length = (
  λ h.
      after_difference (true_places first) (true_places second) (ascends-true_from 0 first) (ascends-true_from 0 second)
      (difference first second same_length h),
  λ h.
      before first second same_length
      (difference_at (true_places first) (true_places second) (ascends-true_from 0 first) (ascends-true_from 0 second) h),
)
