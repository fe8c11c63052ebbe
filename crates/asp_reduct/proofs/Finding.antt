-- The first member of a list that passes a test.
use Rattle.std.proofs.Common.{◌≡◌, ℕ, zero, suc, ◌+◌, ◌<◌, None, Some, Bool, true, false, not, cond, List, [], ◌∷◌, take, length, get_or, inl, inr, refl, sym, ap, ◌∙◌, arith}
use Rattle.std.specs.Prelude.{Option}
use Rattle.std.specs.List.{list_all, find}
use Rattle.std.specs.Option.{option_or}
use Rattle.std.proofs.lemmas.Bool.{and_from}
use Rattle.std.proofs.lemmas.List.{take_more}
use Rattle.std.proofs.lemmas.List.Folds.{find-append}
use Rattle.asp_defs.specs.Lists.{IsIn}

-- nothing was found at a member and behind it
passed : {A : Type 0} (t : Bool) (x : A) (rest : Option A) → cond t (Some x) rest ≡ None → (t ≡ false) × (rest ≡ None)
passed true x rest h = absurd (cc)
passed false x rest h = (refl, h)

-- nothing is found up to one more member that fails
pub find_more : {A : Type 0} (p : A → Bool) (xs : List A) (i : ℕ) (d : A) → i < length xs → find p (take i xs) ≡ None → p (get_or xs i d) ≡ false → find p (take (i + 1) xs) ≡ None
find_more p xs i d h none fails =
    ap (find p) (take_more xs i d h)
    ∙ (find-append p (take i xs) (get_or xs i d ∷ [])
    ∙ (ap (λ o. option_or o (find p (get_or xs i d ∷ []))) none ∙ ap (λ t. cond t (Some (get_or xs i d)) None) fails))

-- a member that passes, where none before it does
pub find_stop : {A : Type 0} (p : A → Bool) (xs : List A) (i : ℕ) (d : A) → i < length xs → find p (take i xs) ≡ None → p (get_or xs i d) ≡ true → Some (get_or xs i d) ≡ find p xs
find_stop p [] i d h none passes = absurd (omega arith)
find_stop p (x ∷ xs) zero d h none passes = sym (ap (λ t. cond t (Some x) (find p xs)) passes)
find_stop p (x ∷ xs) (suc i) d h none passes =
    let parts = passed (p x) x (find p (take i xs)) none in
    find_stop p xs i d (omega arith) parts.1 passes ∙ sym (ap (λ t. cond t (Some x) (find p xs)) parts.0)

-- what is found is a member that passes
found_step : {A : Type 0} (p : A → Bool) (y : A) (ys : List A) (x : A) → (Some x ≡ find p ys → IsIn x ys × (p x ≡ true)) → (t : Bool) → p y ≡ t → Some x ≡ cond t (Some y) (find p ys) → IsIn x (y ∷ ys) × (p x ≡ true)
found_step p y ys x rest true here e = let same : x ≡ y = cc in (inl same, ap p same ∙ here)
found_step p y ys x rest false here e = let h = rest e in (inr h.0, h.1)

pub found_at : {A : Type 0} (p : A → Bool) (xs : List A) (x : A) → Some x ≡ find p xs → IsIn x xs × (p x ≡ true)
found_at p [] x e = absurd (cc)
found_at p (y ∷ ys) x e = found_step p y ys x (found_at p ys x) (p y) refl e

-- where nothing is found, no member passes
pub none_found : {A : Type 0} (p : A → Bool) (xs : List A) → None ≡ find p xs → list_all (λ x. not (p x)) xs ≡ true
none_found p [] e = refl
none_found p (y ∷ ys) e =
    let parts = passed (p y) y (find p ys) (sym e) in
    and_from (not (p y)) (list_all (λ x. not (p x)) ys) (ap not parts.0) (none_found p ys (sym parts.1))

pub not_not : (t : Bool) → not (not t) ≡ t
not_not true = refl
not_not false = refl

-- where no member fails, all pass
pub all_pass : {A : Type 0} (p : A → Bool) (xs : List A) → None ≡ find (λ x. not (p x)) xs → list_all p xs ≡ true
all_pass p [] e = refl
all_pass p (y ∷ ys) e =
    let parts = passed (not (p y)) y (find (λ x. not (p x)) ys) (sym e) in
    and_from (p y) (list_all p ys) (sym (not_not (p y)) ∙ ap not parts.0) (all_pass p ys (sym parts.1))
