-- Products of lists: under a map, and what their members are made of.
use Rattle.std.proofs.Common.{ℕ, ◌≡◌, suc, zero, refl, sym, ◌∙◌, ap, subst, inl, inr, List, [], ◌∷◌, ◌++◌, map, length, replicate}
use Rattle.std.specs.List.{flat_map}
use Rattle.std.proofs.lemmas.List.{map-append}
use Rattle.std.proofs.lemmas.List.Concat.{flat_map-append}
use Rattle.asp_defs.specs.Lists.{IsIn}
use Rattle.asp_defs.specs.Bases.{product}
use Rattle.asp_defs.proofs.Lists.{map_at}
use Rattle.asp_atoms.proofs.Choosing.{flat_map_agrees}
use Rattle.asp_atoms.proofs.Numbering.{map_map}
use Rattle.asp_walk.proofs.Lists.{flat_at}

abbrev pub with_first : {A : Type 0} → List (List A) → A → List (List A)
with_first rest x = map (λ tuple. x ∷ tuple) rest

-- ---- lists that are mapped and joined

pub flat_map_map : {A B C : Type 0} (f : B → List C) (g : A → B) (xs : List A) → flat_map f (map g xs) ≡ flat_map (λ x. f (g x)) xs
flat_map_map f g [] = refl
flat_map_map f g (x ∷ xs) = ap (λ ys. f (g x) ++ ys) (flat_map_map f g xs)

pub map_flat_map : {A B C : Type 0} (f : B → C) (g : A → List B) (xs : List A) → map f (flat_map g xs) ≡ flat_map (λ x. map f (g x)) xs
map_flat_map f g [] = refl
map_flat_map f g (x ∷ xs) = map-append f (g x) (flat_map g xs) ∙ ap (λ ys. map f (g x) ++ ys) (map_flat_map f g xs)

pub flat_map_flat_map : {A B C : Type 0} (f : B → List C) (g : A → List B) (xs : List A) → flat_map f (flat_map g xs) ≡ flat_map (λ x. flat_map f (g x)) xs
flat_map_flat_map f g [] = refl
flat_map_flat_map f g (x ∷ xs) = flat_map-append f (g x) (flat_map g xs) ∙ ap (λ ys. flat_map f (g x) ++ ys) (flat_map_flat_map f g xs)

-- ---- products

first_map : {A B : Type 0} (f : A → B) (mapped : List (List B)) (tuples : List (List A)) (x : A) → mapped ≡ map (map f) tuples → with_first mapped (f x) ≡ map (map f) (with_first tuples x)
first_map f mapped tuples x e =
    ap (λ ts. with_first ts (f x)) e
    ∙ (map_map (λ tuple. f x ∷ tuple) (map f) tuples ∙ sym (map_map (map f) (λ tuple. x ∷ tuple) tuples))

pub product_map : {A B : Type 0} (f : A → B) (xss : List (List A)) → product (map (map f) xss) ≡ map (map f) (product xss)
product_map f [] = refl
product_map f (xs ∷ xss) =
    flat_map_map (with_first (product (map (map f) xss))) f xs
    ∙ (flat_map_agrees (λ x. with_first (product (map (map f) xss)) (f x)) (λ x. map (map f) (with_first (product xss) x)) xs (λ x i. first_map f (product (map (map f) xss)) (product xss) x (product_map f xss))
    ∙ sym (map_flat_map (map f) (with_first (product xss)) xs))

pub replicate_map : {A B : Type 0} (f : A → B) (n : ℕ) (x : A) → map f (replicate n x) ≡ replicate n (f x)
replicate_map f zero x = refl
replicate_map f (suc n) x = ap (λ ys. f x ∷ ys) (replicate_map f n x)

pub in_replicate : {A : Type 0} (n : ℕ) (x y : A) → IsIn y (replicate n x) → y ≡ x
in_replicate zero x y i = absurd i
in_replicate (suc n) x y (inl e) = e
in_replicate (suc n) x y (inr i) = in_replicate n x y i

-- a member of a product has one from each list
pub tuple_length : {A : Type 0} (xss : List (List A)) (tuple : List A) → IsIn tuple (product xss) → length tuple ≡ length xss
tuple_length [] tuple (inl e) = ap length e
tuple_length [] tuple (inr i) = absurd i
tuple_length {A} (xs ∷ xss) tuple i =
    let found = flat_at (with_first (product xss)) xs tuple i in
    let rest = map_at (λ tail. found.0 ∷ tail) (product xss) tuple found.2 in
    ap length rest.2 ∙ ap suc (tuple_length xss rest.0 rest.1)

pub tuple_member : {A : Type 0} (xss : List (List A)) (tuple : List A) (x : A) → IsIn tuple (product xss) → IsIn x tuple → (xs : List A) × IsIn xs xss × IsIn x xs
tuple_member {A} [] tuple x (inl e) j = absurd (subst (λ (t : List A). IsIn x t) e j)
tuple_member [] tuple x (inr i) j = absurd i
tuple_member {A} (xs ∷ xss) tuple x i j =
    let found = flat_at (with_first (product xss)) xs tuple i in
    let rest = map_at (λ tail. found.0 ∷ tail) (product xss) tuple found.2 in
    elim (subst (λ (t : List A). IsIn x t) rest.2 j) [
      | inl e ↦ (xs, inl refl, subst (λ (y : A). IsIn y xs) (sym e) found.1)
      | inr k ↦ let more = tuple_member xss rest.0 x rest.1 k in (more.0, inr more.1, more.2)
    ]
