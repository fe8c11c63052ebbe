-- lemmas on the truth of literals
use Rattle.std.proofs.Common.{◌≡◌, ℕ, suc, zero, ◌+◌, ◌/◌, ◌%◌, ◌-◌, ◌<◌, ◌⊎◌, Bool, true, false, not, eqb, List, [], ◌∷◌, length, get_or, refl, sym, ◌∙◌, subst, ⊎_elim, inl, inr, arith}
use Rattle.std.specs.List.{Contains}
use Rattle.std.proofs.lemmas.Bool.{cases_Bool, cond-true, cond-false, eq-eqb, ne_eqb, both_ways, not_from_false, not-true}
use Rattle.asp_clauses.specs.Literal.{negated}
use Rattle.asp_clauses.proofs.LiteralLemmas.{negated_even, negated_odd, is_even, negated-half, negated-lt}
use Rattle.asp_search.specs.Meaning.{truth, Satisfies}

pub truth-odd : (v : ℕ → Bool) (l : ℕ) → l % 2 ≡ 1 → truth v l ≡ v (l / 2)
truth-odd v l h = cond-true (eqb (l % 2) 1) (v (l / 2)) (not (v (l / 2))) (eq-eqb (l % 2) 1 h)

pub truth-even : (v : ℕ → Bool) (l : ℕ) → l % 2 ≡ 0 → truth v l ≡ not (v (l / 2))
truth-even v l h = cond-false (eqb (l % 2) 1) (v (l / 2)) (not (v (l / 2))) (ne_eqb (l % 2) 1 (λ (e : l % 2 ≡ 1). absurd (omega arith)))

not-not : (b : Bool) → b ≡ not (not b)
not-not true = refl
not-not false = refl

pub truth-negated : (v : ℕ → Bool) (l : ℕ) → truth v (negated l) ≡ not (truth v l)
truth-negated v l =
    ⊎_elim
    (λ (h : l % 2 ≡ 0).
    let half : (l + 1) / 2 ≡ l / 2 = omega arith in
    let odd : (l + 1) % 2 ≡ 1 = omega arith in
    rw (negated_even l h, truth-odd v (l + 1) odd, half, truth-even v l h) (not-not (v (l / 2))))
    (λ (h : l % 2 ≡ 1).
    let half : (l - 1) / 2 ≡ l / 2 = omega arith in
    let even : (l - 1) % 2 ≡ 0 = omega arith in
    rw (negated_odd l (omega arith), truth-even v (l - 1) even, half, truth-odd v l h) refl)
    (is_even l)

pub true-negated : (v : ℕ → Bool) (l : ℕ) → truth v (negated l) ≡ true → truth v l ≡ true → ⊥
true-negated v l n p = both_ways (truth v l) (not-true (truth v l) (sym (truth-negated v l) ∙ n)) p

pub true_or_negated : (v : ℕ → Bool) (l : ℕ) → (truth v l ≡ true) ⊎ (truth v (negated l) ≡ true)
true_or_negated v l =
    ⊎_elim
    (λ (h : truth v l ≡ true). inl h)
    (λ (h : truth v l ≡ false). inr (truth-negated v l ∙ not_from_false (truth v l) h))
    (cases_Bool (truth v l))

pub Contains-tail : (x : ℕ) (xs : List ℕ) (y : ℕ) → Contains xs y → Contains (x ∷ xs) y
Contains-tail x xs y c = (suc c.0, omega (arith, c.1), c.2)

cases_at : (x : ℕ) (xs : List ℕ) (y k : ℕ) → k < length (x ∷ xs) → get_or (x ∷ xs) k y ≡ y → (x ≡ y) ⊎ Contains xs y
cases_at x xs y zero h e = inl e
cases_at x xs y (suc k) h e = inr (k, omega arith, e)

pub Contains-cases : (x : ℕ) (xs : List ℕ) (y : ℕ) → Contains (x ∷ xs) y → (x ≡ y) ⊎ Contains xs y
Contains-cases x xs y c = cases_at x xs y c.0 c.1 c.2

-- either some literal of the clause is true, or all their negations are
pub satisfied_or_false : (v : ℕ → Bool) (clause : List ℕ) → Satisfies v clause ⊎ ((literal : ℕ) → Contains clause literal → truth v (negated literal) ≡ true)
satisfied_or_false v [] = inr (λ literal c. absurd (omega (arith, c.1)))
satisfied_or_false v (x ∷ xs) =
    ⊎_elim
    (λ (h : truth v x ≡ true). inl (record { literal = x; has = (0, omega arith, refl); holds = h }))
    (λ (h : truth v (negated x) ≡ true).
    ⊎_elim
    (λ (s : Satisfies v xs). inl (record { literal = s.literal; has = Contains-tail x xs s.literal s.has; holds = s.holds }))
    (λ (f : (literal : ℕ) → Contains xs literal → truth v (negated literal) ≡ true). inr (λ literal c. ⊎_elim (λ (e : x ≡ literal). subst (λ (y : ℕ). truth v (negated y) ≡ true) e h) (λ (t : Contains xs literal). f literal t) (Contains-cases x xs literal c)))
    (satisfied_or_false v xs))
    (true_or_negated v x)

pub ruleset codes = (negated-lt, negated-half)
