-- What a sort and the removal of repeated neighbours leave are the distinct members.
use Rattle.std.proofs.Common.{◌≡◌, refl, sym, ◌∙◌, subst, Bool, true, List, [], ◌∷◌, map}
use Rattle.std.specs.Prelude.{Contains, IsPermutation, IsSorted}
use Rattle.std.specs.List.{dedup, AllByRecursion}
use Rattle.std.specs.List.Sorted.{IsStrictlySortedBy}
use Rattle.std.specs.Ordering.{on, eq_by_cmp, is_eq}
use Rattle.std.specs.Cmp.{IsEquivalence}
use Rattle.std.specs.declared.cmp.Ordering.{Ordering}
use Rattle.std.specs.declared.cmp.Ordering.TheVariants.{Less, Equal, Greater}
use Rattle.std.proofs.lemmas.Cmp.{on_total, eq_by_cmp_equiv}
use Rattle.std.proofs.lemmas.List.Kept.{IsStrictlySortedBy-dedup, Any-dedup, Contains-from_dedup}
use Rattle.std.proofs.lemmas.List.Sorted.{Contains-permutation, IsPermutation-sym}
use Rattle.asp_defs.specs.Lists.{IsIn}
use Rattle.asp_defs.specs.Constants.{distinct}
use Rattle.asp_defs.proofs.Lists.{map_at, map_from}
use Rattle.asp_walk.proofs.Lists.{get_is_in}
use Rattle.asp_atoms.specs.Ascending.{AllAbove, Ascends}
use Rattle.asp_atoms.proofs.Orders.{IsLawful}
use Rattle.asp_atoms.proofs.Ascending.{distinct_is}
use Rattle.asp_atoms.proofs.Positions.{stands}

-- ---- members and places

pub contains_in : {X : Type 0} (xs : List X) (x : X) → Contains xs x → IsIn x xs
contains_in xs x c = subst (λ y. IsIn y xs) c.2 (get_is_in xs c.0 x c.1)

pub in_contains : {X : Type 0} (xs : List X) (x : X) → IsIn x xs → Contains xs x
in_contains xs x i = let s = stands xs x i in (s.at, s.below, s.is x)

-- ---- the keys of a strictly sorted list ascend

module _ {X A : Type 0} (R : A → A → Ordering) (key : X → A) where
  above_keys : (x : X) (ys : List X) → AllByRecursion (λ y. on key R x y ≡ Less) ys → AllAbove R (key x) (map key ys)
  above_keys x [] h = tt
  above_keys x (y ∷ ys) h = (h.0, above_keys x ys h.1)

  keys_ascend : (xs : List X) → IsStrictlySortedBy (on key R) xs → Ascends R (map key xs)
  unfolding IsStrictlySortedBy
  keys_ascend [] h = tt
  keys_ascend (x ∷ xs) h = (above_keys x xs h.0, keys_ascend xs h.1)

pub is_equal : (o : Ordering) → is_eq o ≡ true → o ≡ Equal
is_equal Less e = absurd (cc)
is_equal Equal e = refl
is_equal Greater e = absurd (cc)

module _ {X A : Type 0} {R : A → A → Ordering} (law : IsLawful R) (key : X → A) where
  -- sorted by key, and then without those that are equal by key to the one before
  pub settled : (E : X → X → Bool) → ((x y : X) → E x y ≡ eq_by_cmp (on key R) x y) → (xs ys : List X) → IsPermutation xs ys → IsSorted (on key R) ys → map key (dedup E ys) ≡ distinct R (map key xs)
  settled E ties xs ys moved sorted =
      distinct_is law (map key xs) (map key (dedup E ys))
      (keys_ascend R key (dedup E ys) (IsStrictlySortedBy-dedup (on_total key law.total) ties ys sorted))
      (record { whole = whole; within = within })
    where
      alike : (x y : X) → E x y ≡ true → key x ≡ key y
      alike x y e = law.exact (key x) (key y) (is_equal (R (key x) (key y)) (sym (ties x y) ∙ e))

      equivalence : IsEquivalence E
      equivalence =
          let base = eq_by_cmp_equiv (on_total key law.total) in
          record {
            refl = λ x. ties x x ∙ base.refl x;
            symm = λ x y. ties x y ∙ (base.symm x y ∙ sym (ties y x));
            congr = λ x y z e. ties x z ∙ (base.congr x y z (sym (ties x y) ∙ e) ∙ sym (ties y z));
          }

      kept : (x : X) → IsIn x ys → IsIn (key x) (map key (dedup E ys))
      kept x i =
          let any = Any-dedup equivalence ys x (in_contains ys x i) in
          let there : IsIn any.1 (dedup E ys) = contains_in (dedup E ys) any.1 (any.0, any.2, any.3) in
          subst (λ k. IsIn k (map key (dedup E ys))) (sym (alike x any.1 any.4)) (map_from key (dedup E ys) any.1 there)

      whole : (k : A) → IsIn k (map key xs) → IsIn k (map key (dedup E ys))
      whole k i =
          let found = map_at key xs k i in
          let there : IsIn found.0 ys = contains_in ys found.0 (Contains-permutation xs ys found.0 moved (in_contains xs found.0 found.1)) in
          subst (λ w. IsIn w (map key (dedup E ys))) (sym found.2) (kept found.0 there)

      within : (k : A) → IsIn k (map key (dedup E ys)) → IsIn k (map key xs)
      within k i =
          let found = map_at key (dedup E ys) k i in
          let before : IsIn found.0 ys = contains_in ys found.0 (Contains-from_dedup E ys found.0 (in_contains (dedup E ys) found.0 found.1)) in
          let there : IsIn found.0 xs = contains_in xs found.0 (Contains-permutation ys xs found.0 (IsPermutation-sym xs ys moved) (in_contains ys found.0 before)) in
          subst (λ w. IsIn w (map key xs)) (sym found.2) (map_from key xs found.0 there)
