-- Lists of lists of lists, and members of lists.
use Rattle.std.proofs.Common.{ℕ, ◌≡◌, ◌<◌, refl, ◌∙◌, ap, subst, inl, inr, zero, suc, List, [], ◌∷◌, ◌++◌, map, length, get_or, arith}
use Rattle.std.specs.List.{flat_map}
use Rattle.std.proofs.lemmas.List.{map-append}
use Rattle.std.proofs.lemmas.List.Concat.{flat_map-append}
use Rattle.asp_defs.specs.Lists.{IsIn}
use Rattle.asp_defs.proofs.Lists.{append_at, append_left, append_right}

pub nested : {A B C : Type 0} (f : B → List C) (g : A → List B) (h : A → List C) → ((x : A) → flat_map f (g x) ≡ h x) → (xs : List A) → flat_map f (flat_map g xs) ≡ flat_map h xs
nested f g h law [] = refl
nested f g h law (x ∷ xs) =
    flat_map-append f (g x) (flat_map g xs)
    ∙ (ap (λ ys. ys ++ flat_map f (flat_map g xs)) (law x) ∙ ap (λ ys. h x ++ ys) (nested f g h law xs))

pub nested_map : {A B C : Type 0} (f : B → C) (g : A → List B) (h : A → List C) → ((x : A) → map f (g x) ≡ h x) → (xs : List A) → map f (flat_map g xs) ≡ flat_map h xs
nested_map f g h law [] = refl
nested_map f g h law (x ∷ xs) =
    map-append f (g x) (flat_map g xs)
    ∙ (ap (λ ys. ys ++ map f (flat_map g xs)) (law x) ∙ ap (λ ys. h x ++ ys) (nested_map f g h law xs))

-- members of joined lists
pub flat_at : {A B : Type 0} (f : A → List B) (xs : List A) (v : B) → IsIn v (flat_map f xs) → (x : A) × IsIn x xs × IsIn v (f x)
flat_at f [] v i = absurd i
flat_at f (x ∷ xs) v i = elim (append_at (f x) (flat_map f xs) v i) [
  | inl h ↦ (x, inl refl, h)
  | inr h ↦ let found = flat_at f xs v h in (found.0, inr found.1, found.2)
]

pub flat_from : {A B : Type 0} (f : A → List B) (xs : List A) (x : A) (v : B) → IsIn x xs → IsIn v (f x) → IsIn v (flat_map f xs)
flat_from f [] x v i h = absurd i
flat_from f (y ∷ ys) x v (inl e) h = append_left (f y) (flat_map f ys) v (subst (λ z. IsIn v (f z)) e h)
flat_from f (y ∷ ys) x v (inr i) h = append_right (f y) (flat_map f ys) v (flat_from f ys x v i h)

-- a place of a list has a member
pub get_is_in : {A : Type 0} (xs : List A) (i : ℕ) (d : A) → i < length xs → IsIn (get_or xs i d) xs
get_is_in [] i d h = absurd (omega arith)
get_is_in (x ∷ xs) zero d h = inl refl
get_is_in (x ∷ xs) (suc i) d h = inr (get_is_in xs i d (omega arith))
