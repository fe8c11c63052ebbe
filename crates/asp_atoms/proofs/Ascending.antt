-- Strictly ascending lists: two with the same members are equal, and a list's distinct members are one.
use Rattle.std.proofs.Common.{◌≡◌, ◌⊎◌, refl, sym, ◌∙◌, ap, subst, inl, inr, List, [], ◌∷◌, ◌++◌, map}
use Rattle.std.specs.List.{flat_map}
use Rattle.std.specs.Ordering.{ordering_reverse}
use Rattle.std.specs.declared.cmp.Ordering.{Ordering}
use Rattle.std.specs.declared.cmp.Ordering.TheVariants.{Less, Equal, Greater}
use Rattle.std.proofs.lemmas.Cmp.{tied_itself}
use Rattle.asp_defs.specs.Lists.{IsIn}
use Rattle.asp_defs.specs.Constants.{with_member, distinct}
use Rattle.asp_walk.proofs.Lists.{flat_at}
use Rattle.asp_atoms.specs.Ascending.{AllAbove, Ascends}
use Rattle.asp_atoms.proofs.Orders.{IsLawful}

-- two lists have the same members
pub record SameMembers {A : Type 0} (xs ys : List A) : Type 0 where
  pub whole : (x : A) → IsIn x xs → IsIn x ys
  pub within : (x : A) → IsIn x ys → IsIn x xs

pub above_at : {A : Type 0} (R : A → A → Ordering) (x : A) (ys : List A) → AllAbove R x ys → (y : A) → IsIn y ys → R x y ≡ Less
above_at R x [] h y i = absurd i
above_at R x (z ∷ ys) h y (inl e) = ap (R x) e ∙ h.0
above_at R x (z ∷ ys) h y (inr i) = above_at R x ys h.1 y i

pub above_from : {A : Type 0} (R : A → A → Ordering) (x : A) (ys : List A) → ((y : A) → IsIn y ys → R x y ≡ Less) → AllAbove R x ys
above_from R x [] h = tt
above_from R x (y ∷ ys) h = (h y (inl refl), above_from R x ys (λ z i. h z (inr i)))

never_both : {P : Type 0} (o q : Ordering) → o ≡ ordering_reverse q → o ≡ Less → q ≡ Less → P
never_both o q turned first second =
    let bad : Less ≡ Greater = sym first ∙ (turned ∙ ap ordering_reverse second) in absurd (cc)

module _ {A : Type 0} {R : A → A → Ordering} (law : IsLawful R) where
  -- ---- at most one order

  never_itself : {P : Type 0} (x : A) → R x x ≡ Less → P
  never_itself x h = let bad : Less ≡ Equal = sym h ∙ tied_itself law.total x in absurd (cc)

  pub never_back : {P : Type 0} (x y : A) → R x y ≡ Less → R y x ≡ Less → P
  never_back x y h g = never_both (R x y) (R y x) (law.total.antisymm x y) h g

  pub turned : (x y : A) → R x y ≡ Greater → R y x ≡ Less
  turned x y h = law.total.antisymm y x ∙ ap ordering_reverse h

  pub turned_back : (x y : A) → R x y ≡ Less → R y x ≡ Greater
  turned_back x y h = law.total.antisymm y x ∙ ap ordering_reverse h

  -- ---- two ascending lists with the same members are equal

  same_first : (x : A) (xs : List A) (y : A) (ys : List A) → Ascends R (x ∷ xs) → Ascends R (y ∷ ys) → IsIn x (y ∷ ys) → IsIn y (x ∷ xs) → x ≡ y
  same_first x xs y ys up rise (inl e) j = e
  same_first x xs y ys up rise (inr i) (inl e) = sym e
  same_first x xs y ys up rise (inr i) (inr j) = never_back x y (above_at R x xs up.0 y j) (above_at R y ys rise.0 x i)

  -- a member behind the first is no first one
  behind : (x : A) (xs : List A) → AllAbove R x xs → (y : A) (ys : List A) → x ≡ y → (z : A) → IsIn z xs → IsIn z (y ∷ ys) → IsIn z ys
  behind x xs above y ys e z i (inl same) =
      never_itself x (subst (λ w. R x w ≡ Less) (same ∙ sym e) (above_at R x xs above z i))
  behind x xs above y ys e z i (inr j) = j

  pub unique : (xs ys : List A) → Ascends R xs → Ascends R ys → SameMembers xs ys → xs ≡ ys
  unique [] [] up rise same = refl
  unique [] (y ∷ ys) up rise same = absurd (same.within y (inl refl))
  unique (x ∷ xs) [] up rise same = absurd (same.whole x (inl refl))
  unique (x ∷ xs) (y ∷ ys) up rise same =
      let e : x ≡ y = same_first x xs y ys up rise (same.whole x (inl refl)) (same.within y (inl refl)) in
      let rest : SameMembers xs ys = record {
        whole = λ z i. behind x xs up.0 y ys e z i (same.whole z (inr i));
        within = λ z i. behind y ys rise.0 x xs (sym e) z i (same.within z (inr i));
      } in
      ap (λ w. w ∷ xs) e ∙ ap (λ ws. y ∷ ws) (unique xs ys up.1 rise.1 rest)

  -- ---- a member put into a list

  abbrev put : A → A → List A → Ordering → List A
  put x y ys o = elim o [ Less ↦ x ∷ y ∷ ys | Equal ↦ y ∷ ys | Greater ↦ y ∷ with_member R x ys ]

  in_put : (x y : A) (ys : List A) (z : A) (o : Ordering) → (IsIn z (with_member R x ys) → (z ≡ x) ⊎ IsIn z ys) → IsIn z (put x y ys o) → (z ≡ x) ⊎ IsIn z (y ∷ ys)
  in_put x y ys z Less rest (inl e) = inl e
  in_put x y ys z Less rest (inr j) = inr j
  in_put x y ys z Equal rest j = inr j
  in_put x y ys z Greater rest (inl e) = inr (inl e)
  in_put x y ys z Greater rest (inr j) = elim (rest j) [ inl e ↦ inl e | inr k ↦ inr (inr k) ]

  pub in_with : (x : A) (ys : List A) (z : A) → IsIn z (with_member R x ys) → (z ≡ x) ⊎ IsIn z ys
  in_with x [] z (inl e) = inl e
  in_with x [] z (inr i) = absurd i
  in_with x (y ∷ ys) z i = in_put x y ys z (R x y) (λ j. in_with x ys z j) i

  new_put : (x y : A) (ys : List A) (o : Ordering) → R x y ≡ o → IsIn x (with_member R x ys) → IsIn x (put x y ys o)
  new_put x y ys Less e rest = inl refl
  new_put x y ys Equal e rest = inl (law.exact x y e)
  new_put x y ys Greater e rest = inr rest

  pub with_new : (x : A) (ys : List A) → IsIn x (with_member R x ys)
  with_new x [] = inl refl
  with_new x (y ∷ ys) = new_put x y ys (R x y) refl (with_new x ys)

  old_put : (x y : A) (ys : List A) (z : A) (o : Ordering) → (IsIn z ys → IsIn z (with_member R x ys)) → IsIn z (y ∷ ys) → IsIn z (put x y ys o)
  old_put x y ys z Less rest j = inr j
  old_put x y ys z Equal rest j = j
  old_put x y ys z Greater rest (inl e) = inl e
  old_put x y ys z Greater rest (inr j) = inr (rest j)

  pub with_old : (x : A) (ys : List A) (z : A) → IsIn z ys → IsIn z (with_member R x ys)
  with_old x [] z i = absurd i
  with_old x (y ∷ ys) z i = old_put x y ys z (R x y) (λ j. with_old x ys z j) i

  all_above_with : (w x : A) (ys : List A) → R w x ≡ Less → AllAbove R w ys → AllAbove R w (with_member R x ys)
  all_above_with w x ys h above = above_from R w (with_member R x ys) (λ z i. elim (in_with x ys z i) [
    | inl e ↦ ap (R w) e ∙ h
    | inr j ↦ above_at R w ys above z j
  ])

  put_ascends : (x y : A) (ys : List A) (o : Ordering) → R x y ≡ o → Ascends R (y ∷ ys) → Ascends R (with_member R x ys) → Ascends R (put x y ys o)
  put_ascends x y ys Less e up rest =
      ((e, above_from R x ys (λ z i. law.total.trans x y z e (above_at R y ys up.0 z i))), up)
  put_ascends x y ys Equal e up rest = up
  put_ascends x y ys Greater e up rest = (all_above_with y x ys (turned x y e) up.0, rest)

  pub ascends_with : (x : A) (ys : List A) → Ascends R ys → Ascends R (with_member R x ys)
  ascends_with x [] up = (tt, tt)
  ascends_with x (y ∷ ys) up = put_ascends x y ys (R x y) refl up (ascends_with x ys up.1)

  -- ---- the distinct members of a list

  pub ascends_distinct : (xs : List A) → Ascends R (distinct R xs)
  ascends_distinct [] = tt
  ascends_distinct (x ∷ xs) = ascends_with x (distinct R xs) (ascends_distinct xs)

  pub in_distinct : (xs : List A) (z : A) → IsIn z (distinct R xs) → IsIn z xs
  in_distinct [] z i = i
  in_distinct (x ∷ xs) z i = elim (in_with x (distinct R xs) z i) [ inl e ↦ inl e | inr j ↦ inr (in_distinct xs z j) ]

  pub distinct_from : (xs : List A) (z : A) → IsIn z xs → IsIn z (distinct R xs)
  distinct_from [] z i = i
  distinct_from (x ∷ xs) z (inl e) = subst (λ w. IsIn w (distinct R (x ∷ xs))) (sym e) (with_new x (distinct R xs))
  distinct_from (x ∷ xs) z (inr i) = with_old x (distinct R xs) z (distinct_from xs z i)

  -- an ascending list with the members of a list
  pub distinct_is : (xs ys : List A) → Ascends R ys → SameMembers xs ys → ys ≡ distinct R xs
  distinct_is xs ys up same = unique ys (distinct R xs) up (ascends_distinct xs) (record {
    whole = λ z i. distinct_from xs z (same.within z i);
    within = λ z i. same.whole z (in_distinct xs z i);
  })

  -- lists with the same members have the same distinct members
  pub same_distinct : (xs ys : List A) → SameMembers xs ys → distinct R xs ≡ distinct R ys
  same_distinct xs ys same = distinct_is ys (distinct R xs) (ascends_distinct xs) (record {
    whole = λ z i. distinct_from xs z (same.within z i);
    within = λ z i. same.whole z (in_distinct xs z i);
  })

  -- ---- ascending lists in a row

  above_append : (x : A) (xs ys : List A) → AllAbove R x xs → AllAbove R x ys → AllAbove R x (xs ++ ys)
  above_append x [] ys h g = g
  above_append x (z ∷ xs) ys h g = (h.0, above_append x xs ys h.1 g)

  pub ascends_append : (xs ys : List A) → Ascends R xs → Ascends R ys → ((x y : A) → IsIn x xs → IsIn y ys → R x y ≡ Less) → Ascends R (xs ++ ys)
  ascends_append [] ys up rise below = rise
  ascends_append (x ∷ xs) ys up rise below =
      (above_append x xs ys up.0 (above_from R x ys (λ y j. below x y (inl refl) j)), ascends_append xs ys up.1 rise (λ z y i j. below z y (inr i) j))

-- ---- a list of lists

pub ascends_flat_map : {A B : Type 0} (R : A → A → Ordering) {S : B → B → Ordering} (law : IsLawful S) (f : A → List B) (xs : List A) → Ascends R xs → ((x : A) → Ascends S (f x)) → ((x z : A) → R x z ≡ Less → (a b : B) → IsIn a (f x) → IsIn b (f z) → S a b ≡ Less) → Ascends S (flat_map f xs)
ascends_flat_map R law f [] up each apart = tt
ascends_flat_map R law f (x ∷ xs) up each apart =
    ascends_append law (f x) (flat_map f xs) (each x) (ascends_flat_map R law f xs up.1 each apart)
    (λ a b i j. let found = flat_at f xs b j in apart x found.0 (above_at R x xs up.0 found.0 found.1) a b i found.2)

-- ---- a mapped list

above_map : {A B : Type 0} (R : A → A → Ordering) (S : B → B → Ordering) (f : A → B) (x : A) (ys : List A) → ((y : A) → IsIn y ys → R x y ≡ Less → S (f x) (f y) ≡ Less) → AllAbove R x ys → AllAbove S (f x) (map f ys)
above_map R S f x [] keeps h = tt
above_map R S f x (y ∷ ys) keeps h = (keeps y (inl refl) h.0, above_map R S f x ys (λ z i. keeps z (inr i)) h.1)

pub ascends_map : {A B : Type 0} (R : A → A → Ordering) (S : B → B → Ordering) (f : A → B) (xs : List A) → ((x y : A) → IsIn x xs → IsIn y xs → R x y ≡ Less → S (f x) (f y) ≡ Less) → Ascends R xs → Ascends S (map f xs)
ascends_map R S f [] keeps up = tt
ascends_map R S f (x ∷ xs) keeps up = (
  above_map R S f x xs (λ y i. keeps x y (inl refl) (inr i)) up.0,
  ascends_map R S f xs (λ y z i j. keeps y z (inr i) (inr j)) up.1,
)
