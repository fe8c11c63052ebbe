-- lemmas on the table of marked codes
use Rattle.std.proofs.Common.{◌≡◌, ℕ, ◌<◌, ◌≤◌, Bool, true, false, List, [], ◌∷◌, ◌++◌, length, get_or, set, refl, sym, ◌∙◌, subst, ⊎_elim, arith}
use Rattle.std.specs.List.{Contains}
use Rattle.std.proofs.lemmas.List.{get_or-set_same, get_or-set_other, length-set, length_push, get_or_append_left, get_or_push}
use Rattle.std.proofs.lemmas.List.Elements.{Contains-append_left, Contains-push, Contains-push_cases}
use Rattle.std.proofs.lemmas.Bool.{cases_eq, cases_lt, false≢true}
use Rattle.asp_search.specs.Seen.{AreDistinct, AreCodes, IsTable}
use Rattle.asp_clauses.proofs.ReorderLemmas.{Contains-place, Contains-at}

pub AreCodes-push : (limit : ℕ) (xs : List ℕ) (x : ℕ) → x < limit → AreCodes limit xs → AreCodes limit (xs ++ x ∷ [])
AreCodes-push limit xs x low h i within =
    ⊎_elim
    (λ (b : i < length xs). rw (get_or_append_left xs (x ∷ []) 0 i b) (h i b))
    (λ (u : length xs ≤ i). rw (get_or_push xs x 0 i (omega (arith, u, within, length_push xs x))) low)
    (cases_lt i (length xs))

pub AreDistinct-push : (xs : List ℕ) (x : ℕ) → (Contains xs x → ⊥) → AreDistinct xs → AreDistinct (xs ++ x ∷ [])
AreDistinct-push xs x fresh d i j low within =
    ⊎_elim
    (λ (b : j < length xs). rw (get_or_append_left xs (x ∷ []) 0 i (omega (arith, low, b)), get_or_append_left xs (x ∷ []) 0 j b) (d i j low b))
    (λ (u : length xs ≤ j).
    let here : i < length xs = omega (arith, low, within, length_push xs x) in
    rw (get_or_append_left xs (x ∷ []) 0 i here, get_or_push xs x 0 j (omega (arith, u, within, length_push xs x)))
    (λ (e : get_or xs i 0 ≡ x). fresh (subst (λ (y : ℕ). Contains xs y) e (Contains-at xs i here))))
    (cases_lt j (length xs))

pub AreDistinct-front : (xs : List ℕ) (x : ℕ) → AreDistinct (xs ++ x ∷ []) → AreDistinct xs
AreDistinct-front xs x d i j low within =
    rw (← get_or_append_left xs (x ∷ []) 0 i (omega (arith, low, within)), ← get_or_append_left xs (x ∷ []) 0 j within) (d i j low (omega (arith, within, length_push xs x)))

pub AreCodes-front : (limit : ℕ) (xs : List ℕ) (x : ℕ) → AreCodes limit (xs ++ x ∷ []) → AreCodes limit xs
AreCodes-front limit xs x h i within =
    rw (← get_or_append_left xs (x ∷ []) 0 i within) (h i (omega (arith, within, length_push xs x)))

-- the last of distinct codes doesn't stand before
pub AreDistinct-last : (xs : List ℕ) (x : ℕ) → AreDistinct (xs ++ x ∷ []) → Contains xs x → ⊥
AreDistinct-last xs x d c =
    let p = Contains-place xs x c in
    d p.0 (length xs) p.1 (omega (arith, length_push xs x)) (get_or_append_left xs (x ∷ []) 0 p.0 p.1 ∙ (p.2 ∙ sym (get_or_push xs x 0 (length xs) refl)))

pub IsTable-insert : (table : List Bool) (listed : List ℕ) (code : ℕ) → code < length table → (Contains listed code → ⊥) → IsTable table listed → IsTable (set table code true) (listed ++ code ∷ [])
IsTable-insert table listed code low fresh t = record {
  codes = rw (length-set table code true) (AreCodes-push (length table) listed code low t.codes);
  distinct = AreDistinct-push listed code fresh t.distinct;
  listed_are_true = λ x c.
      ⊎_elim
      (λ (old : Contains listed x). ⊎_elim
      (λ (e : x ≡ code). rw (e, get_or-set_same table code true false low) refl)
      (λ (n : x ≡ code → ⊥). rw (get_or-set_other table code x true false n) (t.listed_are_true x old))
      (cases_eq x code))
      (λ (e : code ≡ x). rw (← e, get_or-set_same table code true false low) refl)
      (Contains-push_cases listed code x c);
  true_are_listed = λ x within is.
      ⊎_elim
      (λ (e : x ≡ code). rw e (Contains-push listed code))
      (λ (n : x ≡ code → ⊥). Contains-append_left listed (code ∷ []) x (t.true_are_listed x (omega (arith, within, length-set table code true)) (sym (get_or-set_other table code x true false n) ∙ is)))
      (cases_eq x code);
}

pub IsTable-pop : (table : List Bool) (listed : List ℕ) (code : ℕ) → IsTable table (listed ++ code ∷ []) → IsTable (set table code false) listed
IsTable-pop table listed code t = record {
  codes = rw (length-set table code false) (AreCodes-front (length table) listed code t.codes);
  distinct = AreDistinct-front listed code t.distinct;
  listed_are_true = λ x c.
      ⊎_elim
      (λ (e : x ≡ code). absurd (AreDistinct-last listed code t.distinct (subst (λ (y : ℕ). Contains listed y) e c)))
      (λ (n : x ≡ code → ⊥). rw (get_or-set_other table code x false false n) (t.listed_are_true x (Contains-append_left listed (code ∷ []) x c)))
      (cases_eq x code);
  true_are_listed = λ x within is.
      let inside : x < length table = omega (arith, within, length-set table code false) in
      ⊎_elim
      (λ (e : x ≡ code). absurd (false≢true (sym (get_or-set_same table code false false (subst (λ (y : ℕ). y < length table) e inside)) ∙ subst (λ (y : ℕ). get_or (set table code false) y false ≡ true) e is)))
      (λ (n : x ≡ code → ⊥).
      ⊎_elim
      (λ (c : Contains listed x). c)
      (λ (e : code ≡ x). absurd (n (sym e)))
      (Contains-push_cases listed code x (t.true_are_listed x inside (sym (get_or-set_other table code x false false n) ∙ is))))
      (cases_eq x code);
}
