-- The subsets of a base are the lists that the test of subsets accepts, in the order of interpretations, which is that of the
-- first atom on which two of them differ.
use Rattle.std.proofs.Common.{ℕ, ◌<◌, ◌≡◌, ◌≢◌, refl, sym, ◌∙◌, ap, subst, inl, inr, Bool, true, false, ◌||◌, List, [], ◌∷◌, ◌++◌, map, Some, arith}
use Rattle.std.specs.Prelude.{◌==◌}
use Rattle.std.specs.List.{list_all}
use Rattle.std.specs.Ordering.{nat_cmp, is_lt}
use Rattle.std.specs.Cmp.{nat_cmp_is}
use Rattle.std.specs.declared.cmp.Ordering.{Ordering}
use Rattle.std.specs.declared.cmp.Ordering.TheVariants.{Less, Equal, Greater}
use Rattle.std.proofs.lemmas.Bool.{cases_order, cases_eq, ne_eqb}
use Rattle.asp_defs.specs.Lists.{IsIn}
use Rattle.asp_defs.specs.Interpretations.{holds, subsets}
use Rattle.asp_defs.specs.Games.{ascends, within}
use Rattle.asp_defs.specs.Pages.{set_cmp, comes_after}
use Rattle.asp_defs.specs.Laws.{in_order, FirstDifference, SubsetsAreListed, SubsetsAreInOrder, SetsAreOrdered}
use Rattle.asp_defs.proofs.Lists.{both, and_true, all_at, all_from, append_at, map_at}
use Rattle.asp_defs.proofs.Subsets.{true_is_not_false, holds_at, holds_from, subset-member, ascends-tail, ascends-member}
use Rattle.asp_defs.proofs.CellLaws.{subset_from}
use Rattle.asp_defs.proofs.Fixing.{holds_not, is_subset_from}

-- ---- the list has what the test accepts

pub subsets_are_listed : SubsetsAreListed
subsets_are_listed B I up = (
  λ member. is_subset_from B I up member,
  λ test.
      let parts = both (ascends I) (within I B) test in
      subset_from B I up parts.0 (λ a i. holds_at B a (all_at (holds B) I a parts.1 i)),
)

-- ---- the order

cmp-less : (a b : ℕ) → a < b → nat_cmp a b ≡ Less
cmp-less a b h = sym (nat_cmp_is a b Less h)

cmp-same : (a : ℕ) → nat_cmp a a ≡ Equal
cmp-same a = sym (nat_cmp_is a a Equal refl)

cmp-greater : (a b : ℕ) → b < a → nat_cmp a b ≡ Greater
cmp-greater a b h = sym (nat_cmp_is a b Greater h)

-- sets that begin with the same atom compare as what is behind it, and of two others the one whose first atom is greater
-- comes first
abbrev compared : Ordering → List ℕ → List ℕ → Bool
compared first I J = is_lt (elim first [ Less ↦ Greater | Equal ↦ set_cmp I J | Greater ↦ Less ])

after-same : (a : ℕ) (I J : List ℕ) → comes_after (Some (a ∷ I)) (a ∷ J) ≡ comes_after (Some I) J
after-same a I J = ap (λ first. compared first I J) (cmp-same a)

after-greater : (a b : ℕ) (I J : List ℕ) → b < a → comes_after (Some (a ∷ I)) (b ∷ J) ≡ true
after-greater a b I J h = ap (λ first. compared first I J) (cmp-greater a b h)

after-less : (a b : ℕ) (I J : List ℕ) → a < b → comes_after (Some (a ∷ I)) (b ∷ J) ≡ false
after-less a b I J h = ap (λ first. compared first I J) (cmp-less a b h)

-- no set comes after itself
pub not_after_itself : (I : List ℕ) → comes_after (Some I) I ≡ false
not_after_itself [] = refl
not_after_itself (a ∷ I) = after-same a I I ∙ not_after_itself I

-- ---- the subsets are in order

in_order-append : (xs ys : List (List ℕ)) → in_order xs ≡ true → in_order ys ≡ true → ((I J : List ℕ) → IsIn I xs → IsIn J ys → comes_after (Some I) J ≡ true) → in_order (xs ++ ys) ≡ true
in_order-append [] ys hx hy h = hy
in_order-append (I ∷ xs) ys hx hy h =
    let parts = both (list_all (comes_after (Some I)) xs) (in_order xs) hx in
    and_true (list_all (comes_after (Some I)) (xs ++ ys)) (in_order (xs ++ ys))
    (all_from (comes_after (Some I)) (xs ++ ys) (λ J i.
    elim (append_at xs ys J i) [
      | inl front ↦ all_at (comes_after (Some I)) xs J parts.0 front
      | inr back ↦ h I J (inl refl) back
    ]))
    (in_order-append xs ys parts.1 hy (λ K J i j. h K J (inr i) j))

in_order-map : (b : ℕ) (xs : List (List ℕ)) → in_order xs ≡ true → in_order (map (λ J. b ∷ J) xs) ≡ true
in_order-map b [] h = refl
in_order-map b (I ∷ xs) h =
    let parts = both (list_all (comes_after (Some I)) xs) (in_order xs) h in
    and_true (list_all (comes_after (Some (b ∷ I))) (map (λ J. b ∷ J) xs)) (in_order (map (λ J. b ∷ J) xs))
    (all_from (comes_after (Some (b ∷ I))) (map (λ J. b ∷ J) xs) (λ J i.
    let found = map_at (λ K. b ∷ K) xs J i in
    subst (λ (K : List ℕ). comes_after (Some (b ∷ I)) K ≡ true) (sym found.2)
    (after-same b I found.0 ∙ all_at (comes_after (Some I)) xs found.0 parts.0 found.1)))
    (in_order-map b xs parts.1)

-- a set of greater atoms comes before one that begins with an atom
before_first : (b : ℕ) (I J : List ℕ) → ((a : ℕ) → IsIn a I → b < a) → comes_after (Some I) (b ∷ J) ≡ true
before_first b [] J h = refl
before_first b (a ∷ I) J h = after-greater a b I J (h a (inl refl))

pub subsets_are_in_order : SubsetsAreInOrder
subsets_are_in_order [] up = refl
subsets_are_in_order (b ∷ B) up =
    let rest : in_order (subsets B) ≡ true = subsets_are_in_order B (ascends-tail b B up) in
    in_order-append (subsets B) (map (λ J. b ∷ J) (subsets B)) rest (in_order-map b (subsets B) rest) (λ I J i j.
    let found = map_at (λ K. b ∷ K) (subsets B) J j in
    subst (λ (K : List ℕ). comes_after (Some I) K ≡ true) (sym found.2)
    (before_first b I found.0 (λ a member. ascends-member b B a up (subset-member B I a i member))))

-- ---- the order is that of the first difference

-- an atom below all members doesn't hold
below-all : (b : ℕ) (I : List ℕ) (c : ℕ) → ascends (b ∷ I) ≡ true → c < b → holds (b ∷ I) c ≡ false
below-all b I c up low =
    holds_not (b ∷ I) c (λ i.
    elim i [
      | inl same ↦ absurd (omega arith)
      | inr later ↦ let above : b < c = ascends-member b I c up later in absurd (omega arith)
    ])

holds_behind : (b : ℕ) (I : List ℕ) (c : ℕ) → b ≢ c → holds (b ∷ I) c ≡ holds I c
holds_behind b I c apart = rw (ne_eqb b c apart) refl

difference_behind : (a : ℕ) (I J : List ℕ) → ascends (a ∷ J) ≡ true → FirstDifference I J → FirstDifference (a ∷ I) (a ∷ J)
difference_behind a I J up d =
    let above : a < d.atom = ascends-member a J d.atom up (holds_at J d.atom d.here) in
    record {
      atom = d.atom;
      here = holds_from (a ∷ J) d.atom (inr (holds_at J d.atom d.here));
      not_there = holds_behind a I d.atom (omega arith) ∙ d.not_there;
      same_before = λ c low. ap (λ (t : Bool). (a == c) || t) (d.same_before c low);
    }

pub difference_at : (I J : List ℕ) → ascends I ≡ true → ascends J ≡ true → comes_after (Some I) J ≡ true → FirstDifference I J
difference_at [] [] upI upJ h = absurd (cc)
difference_at [] (b ∷ J) upI upJ h = record {
  atom = b;
  here = holds_from (b ∷ J) b (inl refl);
  not_there = refl;
  same_before = λ c low. sym (below-all b J c upJ low);
}
difference_at (a ∷ I) [] upI upJ h = absurd (cc)
difference_at (a ∷ I) (b ∷ J) upI upJ h = elim (cases_order a b) [
  | inl same ↦
      subst (λ (x : ℕ). FirstDifference (a ∷ I) (x ∷ J)) same
      (difference_behind a I J (subst (λ (x : ℕ). ascends (x ∷ J) ≡ true) (sym same) upJ)
      (difference_at I J (ascends-tail a I upI) (ascends-tail b J upJ)
      (sym (after-same a I J) ∙ subst (λ (x : ℕ). comes_after (Some (a ∷ I)) (x ∷ J) ≡ true) (sym same) h)))
  | inr other ↦ elim other [
    | inl less ↦ absurd (true_is_not_false _ h (after-less a b I J less))
    | inr greater ↦ record {
      atom = b;
      here = holds_from (b ∷ J) b (inl refl);
      not_there = below-all a I b upI greater;
      same_before = λ c low. below-all a I c upI (omega (arith, low, greater)) ∙ sym (below-all b J c upJ low);
    }
  ]
]

-- of two sets that begin with the same atom, the first difference is behind it
difference_without : (a : ℕ) (I J : List ℕ) → ascends (a ∷ I) ≡ true → ascends (a ∷ J) ≡ true → FirstDifference (a ∷ I) (a ∷ J) → FirstDifference I J
difference_without a I J upI upJ d =
    let apart : a ≢ d.atom = λ same. true_is_not_false _ (holds_from (a ∷ I) d.atom (inl (sym same))) d.not_there in
    record {
      atom = d.atom;
      here = sym (holds_behind a J d.atom apart) ∙ d.here;
      not_there = sym (holds_behind a I d.atom apart) ∙ d.not_there;
      same_before = λ c low.
          elim (cases_eq a c) [
            | inl same ↦ first_lacks I c upI same ∙ sym (first_lacks J c upJ same)
            | inr other ↦ sym (holds_behind a I c other) ∙ (d.same_before c low ∙ holds_behind a J c other)
          ];
    }
  where
    first_lacks : (K : List ℕ) (c : ℕ) → ascends (a ∷ K) ≡ true → a ≡ c → holds K c ≡ false
    first_lacks K c up same = holds_not K c (λ i. let above : a < c = ascends-member a K c up i in absurd (omega arith))

difference_not_less : (a b : ℕ) (I J : List ℕ) → ascends (b ∷ J) ≡ true → a < b → FirstDifference (a ∷ I) (b ∷ J) → ⊥
difference_not_less a b I J upJ less d = elim (cases_order a d.atom) [
  | inl same ↦ true_is_not_false _ (holds_from (a ∷ I) d.atom (inl (sym same))) d.not_there
  | inr other ↦ elim other [
    | inl before ↦ true_is_not_false _ (sym (d.same_before a before) ∙ holds_from (a ∷ I) a (inl refl)) (below-all b J a upJ less)
    | inr behind ↦ true_is_not_false _ d.here (below-all b J d.atom upJ (omega (arith, behind, less)))
  ]
]

pub after_difference : (I J : List ℕ) → ascends I ≡ true → ascends J ≡ true → FirstDifference I J → comes_after (Some I) J ≡ true
after_difference I [] upI upJ d = absurd (true_is_not_false _ d.here refl)
after_difference [] (b ∷ J) upI upJ d = refl
after_difference (a ∷ I) (b ∷ J) upI upJ d = elim (cases_order a b) [
  | inl same ↦
      let up : ascends (a ∷ J) ≡ true = subst (λ (x : ℕ). ascends (x ∷ J) ≡ true) (sym same) upJ in
      let rest : comes_after (Some I) J ≡ true =
      after_difference I J (ascends-tail a I upI) (ascends-tail b J upJ)
      (difference_without a I J upI up (subst (λ (x : ℕ). FirstDifference (a ∷ I) (x ∷ J)) (sym same) d)) in
      subst (λ (x : ℕ). comes_after (Some (a ∷ I)) (x ∷ J) ≡ true) same (after-same a I J ∙ rest)
  | inr other ↦ elim other [
    | inl less ↦ absurd (difference_not_less a b I J upJ less d)
    | inr greater ↦ after-greater a b I J greater
  ]
]

pub sets_are_ordered : SetsAreOrdered
sets_are_ordered I J upI upJ = (difference_at I J upI upJ, after_difference I J upI upJ)
