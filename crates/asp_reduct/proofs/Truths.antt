-- Atoms in an interpretation that is a list of truth values.
use Rattle.std.proofs.Common.{◌≡◌, ℕ, zero, suc, ◌<◌, ◌≤◌, Some, Bool, true, false, not, ◌&&◌, ◌||◌, List, [], ◌∷◌, length, get_or, nat_lt, inl, inr, refl, ap, ◌∙◌, arith}
use Rattle.std.specs.List.{list_any, list_all, slice_get}
use Rattle.std.proofs.lemmas.Bool.{and_from, lt-ltb}
use Rattle.asp_bits.specs.Places.{true_from, true_places}
use Rattle.asp_bits.proofs.TruePlaces.{any-true_places, any-read}
use Rattle.asp_defs.specs.Lists.{IsIn}
use Rattle.asp_defs.specs.Interpretations.{holds}
use Rattle.asp_defs.specs.Games.{ascends}

-- what stands at a place is a member
pub get_or-member : {A : Type 0} (xs : List A) (i : ℕ) (d : A) → i < length xs → IsIn (get_or xs i d) xs
get_or-member [] i d h = absurd (omega arith)
get_or-member (x ∷ xs) zero d h = inl refl
get_or-member (x ∷ xs) (suc i) d h = inr (get_or-member xs i d (omega arith))

-- an atom is true exactly where the value at its place is
pub holds-true_places : (values : List Bool) (a : ℕ) → holds (true_places values) a ≡ get_or values a false
holds-true_places values a = any-true_places values a

-- what was read at an atom's place says whether the atom is true
pub holds-read : (values : List Bool) (a : ℕ) (value : Bool) → slice_get values a ≡ Some value
    → holds (true_places values) a ≡ value
holds-read values a value h = any-read values a value h

-- none of the atoms is true where not one is
pub none-any : (I atoms : List ℕ) → not (list_any (holds I) atoms) ≡ list_all (λ a. not (holds I a)) atoms
none-any I [] = refl
none-any I (a ∷ atoms) = go (holds I a) (list_any (holds I) atoms) ∙ ap (λ t. not (holds I a) && t) (none-any I atoms)
  where
    go : (p q : Bool) → not (p || q) ≡ (not p && not q)
    go true q = refl
    go false q = refl

-- ---- true places ascend

-- an atom below all of an ascending list goes before it
pub ascends-cons : (a : ℕ) (I : List ℕ) → ascends I ≡ true → ((x : ℕ) → IsIn x I → nat_lt a x ≡ true) → ascends (a ∷ I) ≡ true
ascends-cons a [] up above = refl
ascends-cons a (b ∷ I) up above = and_from (nat_lt a b) (ascends (b ∷ I)) (above b (inl refl)) up

-- the true places are none before the first place
pub true_from-above : (first : ℕ) (values : List Bool) (x : ℕ) → IsIn x (true_from first values) → first ≤ x
true_from-above first [] x i = absurd i
true_from-above first (true ∷ values) x (inl e) = omega arith
true_from-above first (true ∷ values) x (inr i) = let h = true_from-above (suc first) values x i in omega arith
true_from-above first (false ∷ values) x i = let h = true_from-above (suc first) values x i in omega arith

pub ascends-true_from : (first : ℕ) (values : List Bool) → ascends (true_from first values) ≡ true
ascends-true_from first [] = refl
ascends-true_from first (true ∷ values) =
    ascends-cons first (true_from (suc first) values) (ascends-true_from (suc first) values)
    (λ x i. lt-ltb first x (let h = true_from-above (suc first) values x i in omega arith))
ascends-true_from first (false ∷ values) = ascends-true_from (suc first) values
