-- Members of lists, tests of them, and truth values.
use Rattle.std.proofs.Common.{◌≡◌, refl, sym, ap, subst, inl, inr, Bool, true, false, not, ◌&&◌, ◌||◌, cond, ◌⊎◌, List, [], ◌∷◌, ◌++◌, map}
use Rattle.std.specs.List.{list_any, list_all, filter, flat_map}
use Rattle.asp_defs.specs.Lists.{IsIn}

-- both parts of a true conjunction, and a conjunction of true parts
pub both : (a b : Bool) → a && b ≡ true → (a ≡ true) × (b ≡ true)
both true b e = (refl, e)
both false b e = absurd (cc)

pub and_true : (a b : Bool) → a ≡ true → b ≡ true → a && b ≡ true
and_true true b p q = q
and_true false b p q = absurd (cc)

-- a true disjunction has a true part
pub either : (a b : Bool) → a || b ≡ true → (a ≡ true) ⊎ (b ≡ true)
either true b e = inl refl
either false b e = inr e

pub or_left : (a b : Bool) → a ≡ true → a || b ≡ true
or_left true b e = refl
or_left false b e = absurd (cc)

pub or_right : (a b : Bool) → b ≡ true → a || b ≡ true
or_right true b e = refl
or_right false b e = e

-- a truth value is one of two
pub true_or_false : (a : Bool) → (a ≡ true) ⊎ (a ≡ false)
true_or_false true = inl refl
true_or_false false = inr refl

pub not_true : (a : Bool) → not a ≡ true → a ≡ false
not_true true e = absurd (cc)
not_true false e = refl

pub not_false : (a : Bool) → a ≡ false → not a ≡ true
not_false a e = rw e refl

-- what passes of all members passes of each, and the other way round
pub all_at : {A : Type 0} (p : A → Bool) (xs : List A) (x : A) → list_all p xs ≡ true → IsIn x xs → p x ≡ true
all_at p [] x h i = absurd i
all_at p (y ∷ ys) x h (inl e) = rw e ((both (p y) (list_all p ys) h).0)
all_at p (y ∷ ys) x h (inr i) = all_at p ys x ((both (p y) (list_all p ys) h).1) i

pub all_from : {A : Type 0} (p : A → Bool) (xs : List A) → ((x : A) → IsIn x xs → p x ≡ true) → list_all p xs ≡ true
all_from p [] h = refl
all_from p (y ∷ ys) h =
    and_true (p y) (list_all p ys) (h y (inl refl)) (all_from p ys (λ x i. h x (inr i)))

-- a member that passes, and the other way round
pub any_at : {A : Type 0} (p : A → Bool) (xs : List A) → list_any p xs ≡ true → (x : A) × IsIn x xs × (p x ≡ true)
any_at p [] h = absurd (cc)
any_at p (y ∷ ys) h =
    elim (either (p y) (list_any p ys) h) [
      | inl e ↦ (y, inl refl, e)
      | inr e ↦ let found = any_at p ys e in (found.0, inr found.1, found.2)
    ]

pub any_from : {A : Type 0} (p : A → Bool) (xs : List A) (x : A) → IsIn x xs → p x ≡ true → list_any p xs ≡ true
any_from p [] x i e = absurd i
any_from p (y ∷ ys) x (inl same) e = or_left (p y) (list_any p ys) (rw (← same) e)
any_from p (y ∷ ys) x (inr i) e = or_right (p y) (list_any p ys) (any_from p ys x i e)

-- the members of a filtered list
pub filter_at : {A : Type 0} (p : A → Bool) (xs : List A) (x : A) → IsIn x (filter p xs) → IsIn x xs × (p x ≡ true)
filter_at p [] x i = absurd i
filter_at {A} p (y ∷ ys) x i =
    elim (true_or_false (p y)) [
      | inl e ↦
          elim (subst (λ (b : Bool). IsIn x (cond b (y ∷ filter p ys) (filter p ys))) e i) [
            | inl same ↦ (inl same, rw same e)
            | inr more ↦ let rest = filter_at p ys x more in (inr rest.0, rest.1)
          ]
      | inr e ↦
          let rest = filter_at p ys x (subst (λ (b : Bool). IsIn x (cond b (y ∷ filter p ys) (filter p ys))) e i)
          in (inr rest.0, rest.1)
    ]

pub filter_from : {A : Type 0} (p : A → Bool) (xs : List A) (x : A) → IsIn x xs → p x ≡ true → IsIn x (filter p xs)
filter_from p [] x i e = absurd i
filter_from p (y ∷ ys) x (inl same) e =
    let passes : p y ≡ true = rw (← same) e
    in subst (λ (b : Bool). IsIn x (cond b (y ∷ filter p ys) (filter p ys))) (sym passes) (inl same)
filter_from p (y ∷ ys) x (inr i) e =
    elim (true_or_false (p y)) [
      | inl passes ↦
          subst (λ (b : Bool). IsIn x (cond b (y ∷ filter p ys) (filter p ys))) (sym passes) (inr (filter_from p ys x i e))
      | inr fails ↦
          subst (λ (b : Bool). IsIn x (cond b (y ∷ filter p ys) (filter p ys))) (sym fails) (filter_from p ys x i e)
    ]

-- the members of two lists in a row
pub append_at : {A : Type 0} (xs ys : List A) (x : A) → IsIn x (xs ++ ys) → IsIn x xs ⊎ IsIn x ys
append_at [] ys x i = inr i
append_at (y ∷ more) ys x (inl e) = inl (inl e)
append_at (y ∷ more) ys x (inr i) = elim (append_at more ys x i) [ inl h ↦ inl (inr h) | inr h ↦ inr h ]

pub append_left : {A : Type 0} (xs ys : List A) (x : A) → IsIn x xs → IsIn x (xs ++ ys)
append_left [] ys x i = absurd i
append_left (y ∷ more) ys x (inl e) = inl e
append_left (y ∷ more) ys x (inr i) = inr (append_left more ys x i)

pub append_right : {A : Type 0} (xs ys : List A) (x : A) → IsIn x ys → IsIn x (xs ++ ys)
append_right [] ys x i = i
append_right (y ∷ more) ys x i = inr (append_right more ys x i)

-- the members of a mapped list
pub map_at : {A B : Type 0} (f : A → B) (xs : List A) (y : B) → IsIn y (map f xs) → (x : A) × IsIn x xs × (y ≡ f x)
map_at f [] y i = absurd i
map_at f (x ∷ xs) y (inl e) = (x, inl refl, e)
map_at f (x ∷ xs) y (inr i) = let found = map_at f xs y i in (found.0, inr found.1, found.2)

pub map_from : {A B : Type 0} (f : A → B) (xs : List A) (x : A) → IsIn x xs → IsIn (f x) (map f xs)
map_from f [] x i = absurd i
map_from f (y ∷ ys) x (inl e) = inl (ap f e)
map_from f (y ∷ ys) x (inr i) = inr (map_from f ys x i)

-- a member of a list of mapped lists in a row
pub flat_map_from : {A B : Type 0} (f : A → List B) (xs : List A) (x : A) (y : B) → IsIn x xs → IsIn y (f x) → IsIn y (flat_map f xs)
flat_map_from f [] x y i j = absurd i
flat_map_from {A} {B} f (z ∷ zs) x y (inl same) j =
    append_left (f z) (flat_map f zs) y (subst (λ (w : A). IsIn y (f w)) same j)
flat_map_from f (z ∷ zs) x y (inr i) j = append_right (f z) (flat_map f zs) y (flat_map_from f zs x y i j)
