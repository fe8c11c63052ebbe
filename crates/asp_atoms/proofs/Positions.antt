-- Where values stand in ascending lists, and what a binary search finds.
use Rattle.std.proofs.Common.{ℕ, zero, suc, ◌≡◌, ◌⊎◌, ◌<◌, ◌≤◌, ◌+◌, refl, sym, ◌∙◌, ap, subst, inl, inr, List, [], ◌∷◌, length, get_or, map, false, arith, Result, Ok, Err}
use Rattle.std.specs.Prelude.{MatchResult}
use Rattle.std.specs.List.Sorted.{IsSortedBy, IsBinarySearchResult, IsSearchInRange}
use Rattle.std.specs.Ordering.{is_eq, is_lt}
use Rattle.std.specs.declared.cmp.Ordering.{Ordering}
use Rattle.std.specs.declared.cmp.Ordering.TheVariants.{Less, Equal, Greater}
use Rattle.std.proofs.lemmas.Bool.{cases_lt}
use Rattle.std.proofs.lemmas.Cmp.{tied_itself}
use Rattle.std.proofs.lemmas.List.{get_or-map, length-map, map-id}
use Rattle.std.proofs.lemmas.List.Sums.{position_or_len_is}
use Rattle.std.proofs.lemmas.List.Sorted.{searchable_from_sorted}
use Rattle.asp_defs.specs.Lists.{IsIn}
use Rattle.asp_walk.proofs.Lists.{get_is_in}
use Rattle.asp_atoms.specs.Ascending.{Ascends, place_in}
use Rattle.asp_atoms.proofs.Orders.{IsLawful}
use Rattle.asp_atoms.proofs.Ascending.{above_at, turned, turned_back}

-- the place of a value by what a search answers
abbrev pub Finds : {A : Type 0} → (A → A → Ordering) → List A → A → Result ℕ ℕ → Type 0
Finds R ks a r = MatchResult r (λ i. (i < length ks) × (place_in R ks a ≡ i)) (λ i. place_in R ks a ≡ length ks)

-- ---- members by their places

pub item_in : {A : Type 0} (xs : List A) (i : ℕ) (x : A) → i < length xs → x ≡ get_or xs i x → IsIn x xs
item_in xs i x h e = subst (λ y. IsIn y xs) (sym e) (get_is_in xs i x h)

-- a member's place
pub record Stands {A : Type 0} (xs : List A) (x : A) : Type 0 where
  pub at : ℕ
  pub below : at < length xs
  pub is : (d : A) → get_or xs at d ≡ x

pub stands : {A : Type 0} (xs : List A) (x : A) → IsIn x xs → Stands xs x
stands [] x i = absurd i
stands (y ∷ ys) x (inl e) = record { at = 0; below = omega arith; is = λ d. sym e }
stands (y ∷ ys) x (inr i) =
    let rest = stands ys x i in record { at = suc rest.at; below = let b = rest.below in omega arith; is = rest.is }

-- each place is below those behind it
pub ascends_at : {A : Type 0} (R : A → A → Ordering) (xs : List A) → Ascends R xs → (k i : ℕ) (d : A) → k < i → i < length xs → R (get_or xs k d) (get_or xs i d) ≡ Less
ascends_at R [] up k i d h g = absurd (omega arith)
ascends_at R (x ∷ xs) up k zero d h g = absurd (omega arith)
ascends_at R (x ∷ xs) up zero (suc i) d h g = above_at R x xs up.0 (get_or xs i d) (get_is_in xs i d (omega arith))
ascends_at R (x ∷ xs) up (suc k) (suc i) d h g = ascends_at R xs up.1 k i d (omega arith) (omega arith)

module _ {A : Type 0} {R : A → A → Ordering} (law : IsLawful R) where
  -- the member at a place stands there
  pub place_at : (xs : List A) → Ascends R xs → (i : ℕ) (d : A) → i < length xs → place_in R xs (get_or xs i d) ≡ i
  place_at xs up i d h =
      position_or_len_is (λ b. is_eq (R (get_or xs i d) b)) xs i d (omega arith)
      (λ k lt. ap is_eq (turned_back law (get_or xs k d) (get_or xs i d) (ascends_at R xs up k i d lt h)))
      (λ lt. ap is_eq (tied_itself law.total (get_or xs i d)))

  pub place_of : (xs : List A) → Ascends R xs → (x : A) (i : ℕ) → i < length xs → ((d : A) → get_or xs i d ≡ x) → place_in R xs x ≡ i
  place_of xs up x i h is = ap (place_in R xs) (sym (is x)) ∙ place_at xs up i x h

  -- a member's place is one of the list's
  pub place_below : (xs : List A) → Ascends R xs → (x : A) → IsIn x xs → place_in R xs x < length xs
  place_below xs up x i =
      let s = stands xs x i in
      let e = place_of xs up x s.at s.below s.is in
      let b = s.below in omega arith

  pub at_place : (xs : List A) → Ascends R xs → (x d : A) → IsIn x xs → get_or xs (place_in R xs x) d ≡ x
  at_place xs up x d i =
      let s = stands xs x i in
      ap (λ k. get_or xs k d) (place_of xs up x s.at s.below s.is) ∙ s.is d

  -- what isn't at any place has none
  pub no_place : (xs : List A) (a : A) → ((k : ℕ) → k < length xs → is_eq (R a (get_or xs k a)) ≡ false) → place_in R xs a ≡ length xs
  no_place xs a h = position_or_len_is (λ b. is_eq (R a b)) xs (length xs) a (omega arith) h (λ lt. absurd (omega arith))

  -- ---- binary search

  pub sorted : {X : Type 0} (key : X → A) (xs : List X) (up : Ascends R (map key xs)) → IsSortedBy (λ a b. is_lt (R (key a) (key b))) xs
  sorted key xs up k d low high =
      let long = length-map xs key in
      let less : R (get_or (map key xs) k (key d)) (get_or (map key xs) (k + 1) (key d)) ≡ Less =
      ascends_at R (map key xs) up k (k + 1) (key d) (omega arith) (omega (arith, long)) in
      let first : get_or (map key xs) k (key d) ≡ key (get_or xs k d) = get_or-map key xs k d (key d) (omega arith) in
      let second : get_or (map key xs) (k + 1) (key d) ≡ key (get_or xs (k + 1) d) = get_or-map key xs (k + 1) d (key d) (omega arith) in
      let both : R (key (get_or xs k d)) (key (get_or xs (k + 1) d)) ≡ Less =
      subst (λ y. R (key (get_or xs k d)) y ≡ Less) second (subst (λ y. R y (get_or (map key xs) (k + 1) (key d)) ≡ Less) first less) in
      ap is_lt (turned_back law (key (get_or xs k d)) (key (get_or xs (k + 1) d)) both)

  other : (a b : A) → (R b a ≡ Less) ⊎ (R b a ≡ Greater) → is_eq (R a b) ≡ false
  other a b (inl e) = ap is_eq (turned_back law b a e)
  other a b (inr e) = ap is_eq (turned law b a e)

  hit : {X : Type 0} (key : X → A) (xs : List X) → Ascends R (map key xs) → (a : A) (i : ℕ) (d : X) → i < length xs → R (key (get_or xs i d)) a ≡ Equal → (i < length (map key xs)) × (place_in R (map key xs) a ≡ i)
  hit key xs up a i d h e =
      let long = length-map xs key in
      let below : i < length (map key xs) = omega (arith, long, h) in
      (below, place_of (map key xs) up a i below (λ d'. get_or-map key xs i d d' h ∙ law.exact (key (get_or xs i d)) a e))

  miss : {X : Type 0} (key : X → A) (xs : List X) (a : A) (i : ℕ) (d : X) → ((k : ℕ) (d : X) → 0 ≤ k → k < i → R (key (get_or xs k d)) a ≡ Less) → ((k : ℕ) (d : X) → i ≤ k → k < length xs → R (key (get_or xs k d)) a ≡ Greater) → place_in R (map key xs) a ≡ length (map key xs)
  miss key xs a i d low high = no_place (map key xs) a (λ k h.
      let long = length-map xs key in
      let within : k < length xs = omega (arith, long, h) in
      let here : get_or (map key xs) k a ≡ key (get_or xs k d) = get_or-map key xs k d a within in
      ap (λ b. is_eq (R a b)) here ∙ other a (key (get_or xs k d)) (elim (cases_lt k i) [
        | inl lt ↦ inl (low k d (omega arith) lt)
        | inr ge ↦ inr (high k d ge within)
      ]))

  pub found_by : {X : Type 0} (key : X → A) (xs : List X) → Ascends R (map key xs) → (a : A) (r : Result ℕ ℕ) → IsSearchInRange r (length xs) → IsBinarySearchResult (λ y. R (key y) a) xs r → Finds R (map key xs) a r
  found_by key [] up a (Ok i) range result = absurd (omega (arith, range))
  found_by key [] up a (Err i) range result = refl
  found_by key (x ∷ xs) up a (Ok i) range result = hit key (x ∷ xs) up a i x range (result x)
  found_by key (x ∷ xs) up a (Err i) range result =
      let parts = result (searchable_from_sorted law.total key (x ∷ xs) a (sorted key (x ∷ xs) up)) in
      miss key (x ∷ xs) a i x parts.0 parts.1

  pub found : (xs : List A) → Ascends R xs → (a : A) (r : Result ℕ ℕ) → IsSearchInRange r (length xs) → IsBinarySearchResult (λ y. R y a) xs r → Finds R xs a r
  found xs up a r range result =
      let same : map (λ (x : A). x) xs ≡ xs = map-id xs in
      subst (λ ks. Finds R ks a r) same
      (found_by (λ (x : A). x) xs (subst (Ascends R) (sym same) up) a r range result)
