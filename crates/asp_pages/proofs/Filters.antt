-- Filtered lists, and lists of lists in a row.
use Rattle.std.proofs.Common.{◌≡◌, refl, sym, ◌∙◌, ap, inl, inr, Bool, true, false, cond, List, [], ◌∷◌, ◌++◌, map, append_assoc}
use Rattle.std.specs.List.{filter, flat_map}
use Rattle.asp_defs.specs.Lists.{IsIn}

-- tests that agree on the members leave the same
pub filter_same : {A : Type 0} (p q : A → Bool) (xs : List A) → ((x : A) → IsIn x xs → p x ≡ q x) → filter p xs ≡ filter q xs
filter_same p q [] h = refl
filter_same p q (x ∷ xs) h = rw (h x (inl refl), filter_same p q xs (λ y i. h y (inr i))) refl

pub filter_all : {A : Type 0} (p : A → Bool) (xs : List A) → ((x : A) → IsIn x xs → p x ≡ true) → filter p xs ≡ xs
filter_all p [] h = refl
filter_all p (x ∷ xs) h = rw (h x (inl refl), filter_all p xs (λ y i. h y (inr i))) refl

pub filter_none : {A : Type 0} (p : A → Bool) (xs : List A) → ((x : A) → IsIn x xs → p x ≡ false) → filter p xs ≡ []
filter_none p [] h = refl
filter_none p (x ∷ xs) h = rw (h x (inl refl), filter_none p xs (λ y i. h y (inr i))) refl

joined_cond : {A : Type 0} (b : Bool) (x : A) (xs ys : List A) → cond b (x ∷ (xs ++ ys)) (xs ++ ys) ≡ cond b (x ∷ xs) xs ++ ys
joined_cond true x xs ys = refl
joined_cond false x xs ys = refl

pub filter_append : {A : Type 0} (p : A → Bool) (xs ys : List A) → filter p (xs ++ ys) ≡ filter p xs ++ filter p ys
filter_append p [] ys = refl
filter_append p (x ∷ xs) ys =
    ap (λ zs. cond (p x) (x ∷ zs) zs) (filter_append p xs ys) ∙ joined_cond (p x) x (filter p xs) (filter p ys)

mapped_cond : {A B : Type 0} (f : A → B) (b : Bool) (x : A) (xs : List A) → cond b (f x ∷ map f xs) (map f xs) ≡ map f (cond b (x ∷ xs) xs)
mapped_cond f true x xs = refl
mapped_cond f false x xs = refl

pub filter_map : {A B : Type 0} (p : B → Bool) (f : A → B) (xs : List A) → filter p (map f xs) ≡ map f (filter (λ x. p (f x)) xs)
filter_map p f [] = refl
filter_map p f (x ∷ xs) =
    ap (λ zs. cond (p (f x)) (f x ∷ zs) zs) (filter_map p f xs) ∙ mapped_cond f (p (f x)) x (filter (λ y. p (f y)) xs)

-- two tests in either order
swapped_cond : {A : Type 0} (p q : A → Bool) (x : A) (a b : Bool) (xs : List A) → p x ≡ a → q x ≡ b
    → filter p (cond b (x ∷ filter q xs) (filter q xs)) ≡ cond b (cond a (x ∷ filter p (filter q xs)) (filter p (filter q xs))) (filter p (filter q xs))
swapped_cond p q x a true xs hp hq = ap (λ t. cond t (x ∷ filter p (filter q xs)) (filter p (filter q xs))) hp
swapped_cond p q x a false xs hp hq = refl

conds_swap : {A : Type 0} (a b : Bool) (x : A) (xs : List A) → cond b (cond a (x ∷ xs) xs) xs ≡ cond a (cond b (x ∷ xs) xs) xs
conds_swap true true x xs = refl
conds_swap true false x xs = refl
conds_swap false true x xs = refl
conds_swap false false x xs = refl

pub filter_swap : {A : Type 0} (p q : A → Bool) (xs : List A) → filter p (filter q xs) ≡ filter q (filter p xs)
filter_swap p q [] = refl
filter_swap p q (x ∷ xs) =
    swapped_cond p q x (p x) (q x) xs refl refl
    ∙ (conds_swap (p x) (q x) x (filter p (filter q xs))
    ∙ (ap (λ zs. cond (p x) (cond (q x) (x ∷ zs) zs) zs) (filter_swap p q xs)
    ∙ sym (swapped_cond q p x (q x) (p x) xs refl refl)))

-- ---- in a row

pub flat_map_same : {A B : Type 0} (f g : A → List B) (xs : List A) → ((x : A) → IsIn x xs → f x ≡ g x) → flat_map f xs ≡ flat_map g xs
flat_map_same f g [] h = refl
flat_map_same f g (x ∷ xs) h = rw (h x (inl refl), flat_map_same f g xs (λ y i. h y (inr i))) refl

pub flat_map_append : {A B : Type 0} (f : A → List B) (xs ys : List A) → flat_map f (xs ++ ys) ≡ flat_map f xs ++ flat_map f ys
flat_map_append f [] ys = refl
flat_map_append f (x ∷ xs) ys =
    ap (λ zs. f x ++ zs) (flat_map_append f xs ys) ∙ sym (append_assoc (f x) (flat_map f xs) (flat_map f ys))

pub flat_map_map : {A B C : Type 0} (f : B → List C) (g : A → B) (xs : List A) → flat_map f (map g xs) ≡ flat_map (λ x. f (g x)) xs
flat_map_map f g [] = refl
flat_map_map f g (x ∷ xs) = ap (λ zs. f (g x) ++ zs) (flat_map_map f g xs)

map_append : {A B : Type 0} (f : A → B) (xs ys : List A) → map f (xs ++ ys) ≡ map f xs ++ map f ys
map_append f [] ys = refl
map_append f (x ∷ xs) ys = ap (λ zs. f x ∷ zs) (map_append f xs ys)

pub map_flat_map : {A B C : Type 0} (f : B → C) (g : A → List B) (xs : List A) → flat_map (λ x. map f (g x)) xs ≡ map f (flat_map g xs)
map_flat_map f g [] = refl
map_flat_map f g (x ∷ xs) =
    ap (λ zs. map f (g x) ++ zs) (map_flat_map f g xs) ∙ sym (map_append f (g x) (flat_map g xs))

pub filter_flat_map : {A B : Type 0} (p : B → Bool) (g : A → List B) (xs : List A) → flat_map (λ x. filter p (g x)) xs ≡ filter p (flat_map g xs)
filter_flat_map p g [] = refl
filter_flat_map p g (x ∷ xs) =
    ap (λ zs. filter p (g x) ++ zs) (filter_flat_map p g xs) ∙ sym (filter_append p (g x) (flat_map g xs))
