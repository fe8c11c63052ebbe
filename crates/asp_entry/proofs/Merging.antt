-- Two lists of literals as one: its members, its order, and what it holds.
use Rattle.std.proofs.Common.{◌≡◌, ℕ, ◌<◌, ◌≤◌, refl, sym, ◌∙◌, ap, subst, inl, inr, ◌⊎◌, Bool, true, false, not, ◌&&◌, cond, List, [], ◌∷◌, ◌++◌, length, drop, take, ◌-◌, arith}
use Rattle.std.specs.Prelude.{nat_lt}
use Rattle.std.proofs.lemmas.Bool.{cases_lt, lt-ltb, le-ltb, ltb-true}
use Rattle.std.specs.Cmp.{both_ways}
use Rattle.std.proofs.lemmas.List.{drop_all, take_rest, append-nil}
use Rattle.asp_defs.specs.declared.ground.Lit.{Lit}
use Rattle.asp_defs.specs.Lists.{IsIn}
use Rattle.asp_defs.specs.Interpretations.{holds}
use Rattle.asp_defs.specs.Entries.{lit_true, cube_holds}
use Rattle.asp_defs.proofs.Lists.{both, and_true, all_at, all_from}
use Rattle.asp_entry.specs.Cubes.{lits_ascend, merged, HaveCommonSet, HasMembersOfBoth}

-- the first cell of two lists as one, by the three ways to choose it
merged_step : (P : List Lit → Type 0) (x : Lit) (xs : List Lit) (y : Lit) (ys : List Lit)
    → (x.atom < y.atom → P (x ∷ merged xs (y ∷ ys)))
    → (y.atom < x.atom → P (y ∷ merged (x ∷ xs) ys))
    → (x.atom ≡ y.atom → P (x ∷ merged xs ys))
    → P (merged (x ∷ xs) (y ∷ ys))
merged_step P x xs y ys before behind same =
    let behind_or_same : List Lit = cond (nat_lt y.atom x.atom) (y ∷ merged (x ∷ xs) ys) (x ∷ merged xs ys) in
    elim (cases_lt x.atom y.atom) [
      | inl h ↦ subst (λ (b : Bool). P (cond b (x ∷ merged xs (y ∷ ys)) behind_or_same)) (sym (lt-ltb x.atom y.atom h)) (before h)
      | inr h ↦ subst (λ (b : Bool). P (cond b (x ∷ merged xs (y ∷ ys)) behind_or_same)) (sym (le-ltb x.atom y.atom h))
          (elim (cases_lt y.atom x.atom) [
            | inl k ↦ subst (λ (b : Bool). P (cond b (y ∷ merged (x ∷ xs) ys) (x ∷ merged xs ys))) (sym (lt-ltb y.atom x.atom k)) (behind k)
            | inr k ↦ subst (λ (b : Bool). P (cond b (y ∷ merged (x ∷ xs) ys) (x ∷ merged xs ys))) (sym (le-ltb y.atom x.atom k)) (same (omega arith))
          ])
    ]

-- a member of the one list is a member of one of the two
merged_at : (xs ys : List Lit) (l : Lit) → IsIn l (merged xs ys) → IsIn l xs ⊎ IsIn l ys
merged_at [] ys l = λ i. inr i
merged_at (x ∷ xs) [] l = λ i. inl i
merged_at (x ∷ xs) (y ∷ ys) l =
    let P : List Lit → Type 0 = λ m. IsIn l m → IsIn l (x ∷ xs) ⊎ IsIn l (y ∷ ys) in
    merged_step P x xs y ys
    (λ _ i. elim i [
      | inl e ↦ inl (inl e)
      | inr j ↦ elim (merged_at xs (y ∷ ys) l j) [ inl k ↦ inl (inr k) | inr k ↦ inr k ]
    ])
    (λ _ i. elim i [
      | inl e ↦ inr (inl e)
      | inr j ↦ elim (merged_at (x ∷ xs) ys l j) [ inl k ↦ inl k | inr k ↦ inr (inr k) ]
    ])
    (λ _ i. elim i [
      | inl e ↦ inl (inl e)
      | inr j ↦ elim (merged_at xs ys l j) [ inl k ↦ inl (inr k) | inr k ↦ inr (inr k) ]
    ])

-- the first list's members stay
these_stay : (xs ys : List Lit) (l : Lit) → IsIn l xs → IsIn l (merged xs ys)
these_stay [] ys l = λ i. absurd i
these_stay (x ∷ xs) [] l = λ i. i
these_stay (x ∷ xs) (y ∷ ys) l =
    let P : List Lit → Type 0 = λ m. IsIn l (x ∷ xs) → IsIn l m in
    merged_step P x xs y ys
    (λ _ i. elim i [ inl e ↦ inl e | inr j ↦ inr (these_stay xs (y ∷ ys) l j) ])
    (λ _ i. inr (these_stay (x ∷ xs) ys l i))
    (λ _ i. elim i [ inl e ↦ inl e | inr j ↦ inr (these_stay xs ys l j) ])

-- literals of two lists on the same atom are equal
abbrev Agree : List Lit → List Lit → Type 0
Agree xs ys = (a b : Lit) → IsIn a xs → IsIn b ys → a.atom ≡ b.atom → a ≡ b

-- and then the second list's members stay too
those_stay : (xs ys : List Lit) (l : Lit) → Agree xs ys → IsIn l ys → IsIn l (merged xs ys)
those_stay [] ys l agree = λ i. i
those_stay (x ∷ xs) [] l agree = λ i. absurd i
those_stay (x ∷ xs) (y ∷ ys) l agree =
    let P : List Lit → Type 0 = λ m. IsIn l (y ∷ ys) → IsIn l m in
    merged_step P x xs y ys
    (λ _ i. inr (those_stay xs (y ∷ ys) l (λ a b j k. agree a b (inr j) k) i))
    (λ _ i. elim i [ inl e ↦ inl e | inr j ↦ inr (those_stay (x ∷ xs) ys l (λ a b j k. agree a b j (inr k)) j) ])
    (λ h i. elim i [
      | inl e ↦ inl (e ∙ sym (agree x y (inl refl) (inl refl) h))
      | inr j ↦ inr (those_stay xs ys l (λ a b j k. agree a b (inr j) (inr k)) j)
    ])

-- a literal is as its atom in a set in which it is true
sign : (set : List ℕ) (l : Lit) → lit_true set l ≡ true → l.positive ≡ holds set l.atom
sign set l h = go l.positive (holds set l.atom) h
  where
    go : (positive value : Bool) → cond positive value (not value) ≡ true → positive ≡ value
    go true true e = refl
    go true false e = absurd (cc)
    go false true e = absurd (cc)
    go false false e = refl

same_lit : (a b : Lit) → a.atom ≡ b.atom → a.positive ≡ b.positive → a ≡ b
same_lit a b e f =
    ap (λ n. let l : Lit = record { atom = n; positive = a.positive } in l) e
    ∙ ap (λ v. let l : Lit = record { atom = b.atom; positive = v } in l) f

pub agreement : (xs ys : List Lit) → HaveCommonSet xs ys → Agree xs ys
agreement xs ys common a b i j e =
    same_lit a b e
    (sign common.set a (all_at (lit_true common.set) xs a common.held_by_these i)
    ∙ ap (λ n. holds common.set n) e
    ∙ sym (sign common.set b (all_at (lit_true common.set) ys b common.held_by_those j)))

-- ---- the order

rest_ascends : (x : Lit) (xs : List Lit) → lits_ascend (x ∷ xs) ≡ true → lits_ascend xs ≡ true
rest_ascends x [] h = refl
rest_ascends x (y ∷ ys) h = (both (nat_lt x.atom y.atom) (lits_ascend (y ∷ ys)) h).1

above_first : (x : Lit) (xs : List Lit) → lits_ascend (x ∷ xs) ≡ true → (l : Lit) → IsIn l xs → x.atom < l.atom
above_first x [] h l i = absurd i
above_first x (y ∷ ys) h l (inl e) =
    rw e (ltb-true x.atom y.atom ((both (nat_lt x.atom y.atom) (lits_ascend (y ∷ ys)) h).0))
above_first x (y ∷ ys) h l (inr i) =
    let first : x.atom < y.atom = ltb-true x.atom y.atom ((both (nat_lt x.atom y.atom) (lits_ascend (y ∷ ys)) h).0) in
    let later : y.atom < l.atom = above_first y ys (rest_ascends x (y ∷ ys) h) l i in
    omega arith

ascends_from : (x : Lit) (xs : List Lit) → lits_ascend xs ≡ true → ((l : Lit) → IsIn l xs → x.atom < l.atom)
    → lits_ascend (x ∷ xs) ≡ true
ascends_from x [] up above = refl
ascends_from x (y ∷ ys) up above =
    and_true (nat_lt x.atom y.atom) (lits_ascend (y ∷ ys)) (lt-ltb x.atom y.atom (above y (inl refl))) up

-- a lower bound of an ascending list's first atom is one of all
bound_of_all : (n : ℕ) (y : Lit) (ys : List Lit) → lits_ascend (y ∷ ys) ≡ true → n < y.atom
    → (l : Lit) → IsIn l (y ∷ ys) → n < l.atom
bound_of_all n y ys q h l (inl e) = rw e h
bound_of_all n y ys q h l (inr i) = let later : y.atom < l.atom = above_first y ys q l i in omega arith

-- two ascending lists as one are an ascending list
merged_ascends : (xs ys : List Lit) → lits_ascend xs ≡ true → lits_ascend ys ≡ true → lits_ascend (merged xs ys) ≡ true
merged_ascends [] ys p q = q
merged_ascends (x ∷ xs) [] p q = p
merged_ascends (x ∷ xs) (y ∷ ys) p q =
    let P : List Lit → Type 0 = λ m. lits_ascend m ≡ true in
    merged_step P x xs y ys
    (λ h. ascends_from x (merged xs (y ∷ ys)) (merged_ascends xs (y ∷ ys) (rest_ascends x xs p) q)
    (λ l i. elim (merged_at xs (y ∷ ys) l i) [
      | inl j ↦ above_first x xs p l j
      | inr j ↦ bound_of_all x.atom y ys q h l j
    ]))
    (λ h. ascends_from y (merged (x ∷ xs) ys) (merged_ascends (x ∷ xs) ys p (rest_ascends y ys q))
    (λ l i. elim (merged_at (x ∷ xs) ys l i) [
      | inl j ↦ bound_of_all y.atom x xs p h l j
      | inr j ↦ above_first y ys q l j
    ]))
    (λ h. ascends_from x (merged xs ys) (merged_ascends xs ys (rest_ascends x xs p) (rest_ascends y ys q))
    (λ l i. elim (merged_at xs ys l i) [
      | inl j ↦ above_first x xs p l j
      | inr j ↦ rw h (above_first y ys q l j)
    ]))

-- ---- what a caller knows of the one list

pub carried : (joined these those mine others : List Lit) → joined ≡ merged these those → these ≡ mine → those ≡ others
    → joined ≡ merged mine others
carried joined these those mine others e f g =
    e ∙ ap (λ xs. merged xs those) f ∙ ap (λ ys. merged mine ys) g

pub ascending : (these those joined : List Lit) → joined ≡ merged these those
    → lits_ascend these ≡ true → lits_ascend those ≡ true → lits_ascend joined ≡ true
ascending these those joined e p q = rw e (merged_ascends these those p q)

pub members : (these those joined : List Lit) → joined ≡ merged these those → HaveCommonSet these those
    → HasMembersOfBoth these those joined
members these those joined e common = record {
  no_more = λ l i. merged_at these those l (subst (λ (xs : List Lit). IsIn l xs) e i);
  all_of_these = λ l i. subst (λ (xs : List Lit). IsIn l xs) (sym e) (these_stay these those l i);
  all_of_those = λ l i.
      subst (λ (xs : List Lit). IsIn l xs) (sym e) (those_stay these those l (agreement these those common) i);
}

-- a list with the members of two holds what both hold
pub held : (these those joined : List Lit) → HasMembersOfBoth these those joined
    → (M : List ℕ) → cube_holds joined M ≡ (cube_holds these M && cube_holds those M)
held these those joined of_both M =
    both_ways (cube_holds joined M) (cube_holds these M && cube_holds those M)
    (λ h. and_true (cube_holds these M) (cube_holds those M)
    (all_from (lit_true M) these (λ l i. all_at (lit_true M) joined l h (of_both.all_of_these l i)))
    (all_from (lit_true M) those (λ l i. all_at (lit_true M) joined l h (of_both.all_of_those l i))))
    (λ h. let parts = both (cube_holds these M) (cube_holds those M) h in
    all_from (lit_true M) joined
    (λ l i. elim (of_both.no_more l i) [
      | inl j ↦ all_at (lit_true M) these l parts.0 j
      | inr j ↦ all_at (lit_true M) those l parts.1 j
    ]))

-- ---- the end of the loop

merged-nil : (xs : List Lit) → merged xs [] ≡ xs
merged-nil [] = refl
merged-nil (x ∷ xs) = refl

-- where one of the lists is at its end, the other's rest is all that is left
rests_alone : (items these those : List Lit) (mine others : ℕ) → (length these ≤ mine) ⊎ (length those ≤ others)
    → items ++ drop mine these ++ drop others those ≡ items ++ merged (drop mine these) (drop others those)
rests_alone items these those mine others (inl h) =
    rw (drop_all mine these h, append-nil items) refl
rests_alone items these those mine others (inr h) =
    rw (drop_all others those h, merged-nil (drop mine these)) (append-nil _)

-- both rests, as the code slices them
pub rests : (items first second these those : List Lit) (mine others : ℕ)
    → first ≡ items ++ take (length these - mine) (drop mine these)
    → second ≡ first ++ take (length those - others) (drop others those)
    → (length these ≤ mine) ⊎ (length those ≤ others)
    → items ++ merged (drop mine these) (drop others those) ≡ merged these those
    → second ≡ merged these those
rests items first second these those mine others e f ended kept =
    f
    ∙ ap (λ xs. first ++ xs) (take_rest those others)
    ∙ ap (λ xs. xs ++ drop others those) (e ∙ ap (λ xs. items ++ xs) (take_rest these mine))
    ∙ rests_alone items these those mine others ended
    ∙ kept
