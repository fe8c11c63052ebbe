-- What a sort and the removal of repeated neighbours leave of the atoms of terms are the counted atoms.
use Rattle.std.proofs.Common.{ℕ, suc, ◌<◌, ◌≡◌, refl, sym, ◌∙◌, ap, subst, inl, inr, true, List, [], ◌∷◌, map, nat_lt, Contains, IsPermutation, IsSorted, arith}
use Rattle.std.specs.Prelude.{nat_eq}
use Rattle.std.specs.List.{dedup, filter}
use Rattle.std.specs.List.Sorted.{IsStrictlySortedBy}
use Rattle.std.specs.Ordering.{nat_cmp, eq_by_cmp}
use Rattle.std.proofs.lemmas.Cmp.{nat_cmp_total, nat_eq_equiv, ranked}
use Rattle.std.specs.declared.cmp.Ordering.TheVariants.{Less}
use Rattle.std.proofs.lemmas.Bool.{lt-ltb, eqb-true}
use Rattle.std.proofs.lemmas.List.Kept.{IsStrictlySortedBy-dedup, Contains-dedup, Contains-from_dedup}
use Rattle.std.proofs.lemmas.List.Sorted.{Contains-permutation, IsPermutation-sym}
use Rattle.asp_defs.specs.declared.ground.Bound.{Bound}
use Rattle.asp_defs.specs.declared.ground.Counted.{Counted}
use Rattle.asp_defs.specs.Bounds.{counted_atoms}
use Rattle.asp_defs.specs.Games.{ascends}
use Rattle.asp_defs.specs.Lists.{IsIn}
use Rattle.asp_defs.proofs.Lists.{and_true, filter_at, filter_from, map_at, map_from}
use Rattle.asp_defs.proofs.Subsets.{filter-subset, subset_full}
use Rattle.asp_defs.proofs.CellLaws.{subset_from}
use Rattle.asp_defs.proofs.Fixing.{subset-ascends}
use Rattle.asp_reduct.proofs.Truths.{get_or-member}
use Rattle.asp_bounds.specs.Terms.{is_counted, counted_terms}
use Rattle.asp_bounds.proofs.Counting.{Counting, in_counted_from, in_counted_at}

contains_in : (xs : List ℕ) (x : ℕ) → Contains xs x → IsIn x xs
contains_in xs x c = subst (λ y. IsIn y xs) c.2 (get_or-member xs c.0 x c.1)

in_contains : (xs : List ℕ) (x : ℕ) → IsIn x xs → Contains xs x
in_contains [] x i = absurd i
in_contains (y ∷ ys) x (inl e) = (0, omega arith, sym e)
in_contains (y ∷ ys) x (inr i) = let c = in_contains ys x i in (suc c.0, omega (arith, c.1), c.2)

sorted-ascends : (xs : List ℕ) → IsStrictlySortedBy nat_cmp xs → ascends xs ≡ true
unfolding IsStrictlySortedBy
sorted-ascends [] h = refl
sorted-ascends (x ∷ []) h = refl
sorted-ascends (x ∷ y ∷ ys) h =
    and_true (nat_lt x y) (ascends (y ∷ ys)) (lt-ltb x y (less x y h.0.0)) (sorted-ascends (y ∷ ys) h.1)
  where
    less : (a b : ℕ) → nat_cmp a b ≡ Less → a < b
    less a b e = ranked a b Less (sym e)

ties : (x y : ℕ) → nat_eq x y ≡ eq_by_cmp nat_cmp x y
ties x y = grind arith

pub counted-ascends : (I : List ℕ) (b : Bound) → ascends I ≡ true → ascends (counted_atoms I b) ≡ true
counted-ascends I b up = subset-ascends I (counted_atoms I b) up (filter-subset _ I)

pub counted-settled : (I : List ℕ) (b : Bound) (terms : List Counted) (xs ys zs : List ℕ) → ascends I ≡ true → terms ≡ b.counted
    → xs ≡ counted_terms I terms → IsPermutation xs ys → IsSorted nat_cmp ys → zs ≡ dedup nat_eq ys → zs ≡ counted_atoms I b
counted-settled I b terms xs ys zs up terms_are xs_are moved sorted is =
    is ∙ subset_full (counted_atoms I b) (dedup nat_eq ys) (counted-ascends I b up)
    (subset_from (counted_atoms I b) (dedup nat_eq ys) (counted-ascends I b up)
    (sorted-ascends (dedup nat_eq ys) (IsStrictlySortedBy-dedup nat_cmp_total ties ys sorted)) there)
    back
  where
    atoms_are : xs ≡ map (λ (c : Counted). c.atom) (filter (is_counted I) b.counted)
    atoms_are = xs_are ∙ ap (counted_terms I) terms_are

    there : (a : ℕ) → IsIn a (dedup nat_eq ys) → IsIn a (counted_atoms I b)
    there a i =
        let from : Contains xs a = Contains-permutation _ _ a (IsPermutation-sym _ _ moved) (Contains-from_dedup _ _ a (in_contains (dedup nat_eq ys) a i)) in
        let found = map_at (λ (c : Counted). c.atom) (filter (is_counted I) b.counted) a
        (subst (λ (ls : List ℕ). IsIn a ls) atoms_are (contains_in xs a from)) in
        let kept = filter_at (is_counted I) b.counted found.0 found.1 in
        subst (λ (x : ℕ). IsIn x (counted_atoms I b)) (sym found.2) (in_counted_from I b found.0 kept.0 kept.1)

    back : (a : ℕ) → IsIn a (counted_atoms I b) → IsIn a (dedup nat_eq ys)
    back a i =
        let at : Counting I b a = in_counted_at I b a i in
        let member : IsIn a xs =
        subst (λ (ls : List ℕ). IsIn a ls) (sym atoms_are)
        (subst (λ (x : ℕ). IsIn x (map (λ (c : Counted). c.atom) (filter (is_counted I) b.counted))) at.its_atom
        (map_from (λ (c : Counted). c.atom) (filter (is_counted I) b.counted) at.term (filter_from (is_counted I) b.counted at.term at.member at.does))) in
        contains_in (dedup nat_eq ys) a
        (Contains-dedup nat_eq_equiv (λ x y e. eqb-true x y e) _ a (Contains-permutation _ _ a moved (in_contains xs a member)))
