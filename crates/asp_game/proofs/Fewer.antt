-- A cube that is left out leaves fewer moves open: the measure of a loop that leaves out each move that it is given.
use Rattle.std.proofs.Common.{◌≡◌, ℕ, ◌<◌, ◌≤◌, refl, sym, ◌∙◌, subst, inl, inr, Bool, true, false, not, ◌&&◌, cond, List, [], ◌∷◌, ◌++◌, length, arith}
use Rattle.std.specs.List.{list_all, filter}
use Rattle.std.proofs.lemmas.List.Folds.{list_all-append}
use Rattle.asp_defs.specs.declared.ground.Lit.{Lit}
use Rattle.asp_defs.specs.Lists.{IsIn}
use Rattle.asp_defs.specs.Entries.{cube_holds}
use Rattle.asp_defs.proofs.Lists.{both, and_true, not_true}
use Rattle.asp_game.specs.Questions.{is_open}

-- a stricter test keeps no more of a list, and fewer where it drops a member that the other keeps
pub no_more : {A : Type 0} (p q : A → Bool) (xs : List A) → ((y : A) → p y ≡ true → q y ≡ true)
    → length (filter p xs) ≤ length (filter q xs)
no_more p q [] h = omega arith
no_more {A} p q (y ∷ ys) h = go (p y) (q y) (h y) (no_more p q ys h)
  where
    go : (a b : Bool) → (a ≡ true → b ≡ true) → length (filter p ys) ≤ length (filter q ys)
        → length (cond a (y ∷ filter p ys) (filter p ys)) ≤ length (cond b (y ∷ filter q ys) (filter q ys))
    go true true k le = omega arith
    go true false k le = absurd (let e : false ≡ true = k refl in cc)
    go false true k le = omega arith
    go false false k le = le

pub fewer : {A : Type 0} (p q : A → Bool) (xs : List A) (x : A) → ((y : A) → p y ≡ true → q y ≡ true) → IsIn x xs
    → q x ≡ true → p x ≡ false → length (filter p xs) < length (filter q xs)
fewer p q [] x h i kept dropped = absurd i
fewer {A} p q (y ∷ ys) x h (inl e) kept dropped =
    go (p y) (q y) (subst (λ (z : A). p z ≡ false) e dropped) (subst (λ (z : A). q z ≡ true) e kept) (no_more p q ys h)
  where
    go : (a b : Bool) → a ≡ false → b ≡ true → length (filter p ys) ≤ length (filter q ys)
        → length (cond a (y ∷ filter p ys) (filter p ys)) < length (cond b (y ∷ filter q ys) (filter q ys))
    go true b d k le = absurd (cc)
    go false true d k le = omega arith
    go false false d k le = absurd (cc)
fewer {A} p q (y ∷ ys) x h (inr i) kept dropped = go (p y) (q y) (h y) (fewer p q ys x h i kept dropped)
  where
    go : (a b : Bool) → (a ≡ true → b ≡ true) → length (filter p ys) < length (filter q ys)
        → length (cond a (y ∷ filter p ys) (filter p ys)) < length (cond b (y ∷ filter q ys) (filter q ys))
    go true true k less = omega arith
    go true false k less = absurd (let e : false ≡ true = k refl in cc)
    go false true k less = omega arith
    go false false k less = less

-- what is outside a longer list of cubes is outside the list, and what a cube holds isn't outside it
pub open_before : (region : List Lit) (blocked : List (List Lit)) (cube : List Lit) (N : List ℕ)
    → is_open region (blocked ++ cube ∷ []) N ≡ true → (is_open region blocked N ≡ true) × (cube_holds cube N ≡ false)
open_before region blocked cube N h =
    let test : List Lit → Bool = λ c. not (cube_holds c N) in
    let parts = both (cube_holds region N) (list_all test (blocked ++ cube ∷ [])) h in
    let split : (list_all test blocked && list_all test (cube ∷ [])) ≡ true =
    sym (list_all-append test blocked (cube ∷ [])) ∙ parts.1 in
    let more = both (list_all test blocked) (list_all test (cube ∷ [])) split in
    let last = both (test cube) true more.1 in
    (and_true (cube_holds region N) (list_all test blocked) parts.0 more.0, not_true (cube_holds cube N) last.0)
