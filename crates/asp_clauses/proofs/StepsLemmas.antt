-- Steps: one more at the end, and the first of them.
use Rattle.std.proofs.Common.{◌≡◌, ◌≢◌, ℕ, zero, suc, ◌+◌, ◌/◌, ◌<◌, ◌≤◌, ◌⊎◌, Bool, true, false, cond, List, [], ◌∷◌, ◌++◌, length, take, refl, sym, ◌∙◌, ap, arith, inl, inr, subst, zero-add}
use Rattle.std.proofs.lemmas.List.{length_push, get_or_append_left, get_or_push, get_or-take, length-take-le, take-take}
use Rattle.std.proofs.lemmas.List.Sums.{sum_by_push, sum_by-append, sum_by-take-le, count_by-le-length}
use Rattle.std.proofs.lemmas.Bool.{cases_lt, cases_Bool}
use Rattle.asp_clauses.specs.declared.trail.Step.{Step}
use Rattle.asp_clauses.specs.Trail.{no_step, step_at, is_decision, decisions, IsPlaced, IsUnassigned, back_to}

-- a place of the longer trail
pub place_cases : (steps : List Step) (step : Step) (place : ℕ) → place < length (steps ++ step ∷ []) → (place < length steps) ⊎ (place ≡ length steps)
place_cases steps step place h = let l = length_push steps step in elim (cases_lt place (length steps)) [ inl a ↦ inl a | inr b ↦ inr (omega (arith, l)) ]

pub step_at-push : (steps : List Step) (step : Step) (place : ℕ) → place < length steps → step_at (steps ++ step ∷ []) place ≡ step_at steps place
step_at-push steps step place h = get_or_append_left steps (step ∷ []) no_step place h

pub step_at-last : (steps : List Step) (step : Step) (place : ℕ) → place ≡ length steps → step_at (steps ++ step ∷ []) place ≡ step
step_at-last steps step place e = get_or_push steps step no_step place (sym e)

pub step_at-take : (steps : List Step) (n place : ℕ) → place < n → step_at (take n steps) place ≡ step_at steps place
step_at-take steps n place h = get_or-take n steps place no_step h

pub IsPlaced-push : (steps : List Step) (step : Step) (literal : ℕ) → IsPlaced steps literal → IsPlaced (steps ++ step ∷ []) literal
IsPlaced-push steps step literal p =
    (p.0, let l = length_push steps step in omega (arith, l, p.1), ap (λ (s : Step). s.literal) (step_at-push steps step p.0 p.1) ∙ p.2)

pub IsPlaced-last : (steps : List Step) (step : Step) → IsPlaced (steps ++ step ∷ []) step.literal
IsPlaced-last steps step =
    (length steps, let l = length_push steps step in omega (arith, l), ap (λ (s : Step). s.literal) (step_at-last steps step (length steps) refl))

-- what stands among the first steps stands among all
pub IsPlaced-from_take : (steps : List Step) (n literal : ℕ) → n ≤ length steps → IsPlaced (take n steps) literal → IsPlaced steps literal
IsPlaced-from_take steps n literal h p =
    let l = length-take-le n steps h in
    let lt : p.0 < n = omega (arith, l, p.1) in
    (p.0, omega arith, sym (ap (λ (s : Step). s.literal) (step_at-take steps n p.0 lt)) ∙ p.2)

-- a literal whose atom is unassigned is not placed
pub unplaced : (steps : List Step) (literal other : ℕ) → IsUnassigned steps literal → other / 2 ≡ literal / 2 → IsPlaced steps other → ⊥
unplaced steps literal other u e p = u p.0 p.1 (ap (λ (x : ℕ). x / 2) p.2 ∙ e)

pub IsUnassigned-push : (steps : List Step) (step : Step) (literal : ℕ) → IsUnassigned steps literal → step.literal / 2 ≢ literal / 2 → IsUnassigned (steps ++ step ∷ []) literal
IsUnassigned-push steps step literal u ne place h e = elim (place_cases steps step place h) [
  | inl lt ↦ u place lt (sym (ap (λ (s : Step). s.literal / 2) (step_at-push steps step place lt)) ∙ e)
  | inr eq ↦ ne (sym (ap (λ (s : Step). s.literal / 2) (step_at-last steps step place eq)) ∙ e)
]

decisions-cons : (step : Step) (later : List Step) → decisions (step ∷ later) ≡ cond {A = ℕ} (is_decision step) 1 0 + decisions later
decisions-cons step later =
    sum_by-append (λ (x : Step). cond (is_decision x) 1 0) (step ∷ []) later ∙ ap (λ (n : ℕ). n + decisions later) (zero-add (cond {A = ℕ} (is_decision step) 1 0))

pub decisions-push : (steps : List Step) (step : Step) → decisions (steps ++ step ∷ []) ≡ decisions steps + cond (is_decision step) 1 0
decisions-push steps step = sum_by_push (λ (x : Step). cond (is_decision x) 1 0) steps step

pub decisions-push_yes : (steps : List Step) (step : Step) → is_decision step ≡ true → decisions (steps ++ step ∷ []) ≡ decisions steps + 1
decisions-push_yes steps step e = decisions-push steps step ∙ ap (λ (b : Bool). decisions steps + cond b 1 0) e

pub decisions-push_no : (steps : List Step) (step : Step) → is_decision step ≡ false → decisions (steps ++ step ∷ []) ≡ decisions steps
decisions-push_no steps step e = decisions-push steps step ∙ ap (λ (b : Bool). decisions steps + cond b 1 0) e ∙ omega arith

pub decisions-take-le : (steps : List Step) (n : ℕ) → decisions (take n steps) ≤ decisions steps
decisions-take-le steps n = sum_by-take-le (λ (x : Step). cond (is_decision x) 1 0) steps n

pub decisions-take-mono : (steps : List Step) (m n : ℕ) → m ≤ n → decisions (take m steps) ≤ decisions (take n steps)
decisions-take-mono steps m n h = let d = decisions-take-le (take n steps) m in subst (λ (x : List Step). decisions x ≤ decisions (take n steps)) (take-take m n steps h) d

pub decisions-le-length : (steps : List Step) → decisions steps ≤ length steps
decisions-le-length steps = count_by-le-length is_decision steps

-- the steps before a decision are what a jump to its level goes back to
pub back_to-take : (level : ℕ) (steps : List Step) (n : ℕ) → n < length steps → is_decision (step_at steps n) ≡ true → decisions (take n steps) ≡ level → back_to level steps ≡ take n steps
unfolding back_to
back_to-take level [] n h d e = absurd (omega arith)
back_to-take zero (step ∷ later) zero h d e = ap (λ (b : Bool). cond b [] (step ∷ back_to zero later)) d
back_to-take (suc level) (step ∷ later) zero h d e = absurd (omega (arith, e))
back_to-take zero (step ∷ later) (suc n) h d e =
    let e' : cond {A = ℕ} (is_decision step) 1 0 + decisions (take n later) ≡ 0 = sym (decisions-cons step (take n later)) ∙ e in elim (cases_Bool (is_decision step)) [
      | inl t ↦ let w : cond {A = ℕ} (is_decision step) 1 0 ≡ 1 = ap (λ (b : Bool). cond b 1 0) t in absurd (omega (arith, e', w))
      | inr f ↦ let w : cond {A = ℕ} (is_decision step) 1 0 ≡ 0 = ap (λ (b : Bool). cond b 1 0) f in
          ap (λ (b : Bool). cond b [] (step ∷ back_to zero later)) f ∙ ap (λ (l : List Step). step ∷ l) (back_to-take zero later n (omega arith) d (omega (arith, e', w)))
    ]
back_to-take (suc level) (step ∷ later) (suc n) h d e =
    let e' : cond {A = ℕ} (is_decision step) 1 0 + decisions (take n later) ≡ suc level = sym (decisions-cons step (take n later)) ∙ e in elim (cases_Bool (is_decision step)) [
      | inl t ↦ let w : cond {A = ℕ} (is_decision step) 1 0 ≡ 1 = ap (λ (b : Bool). cond b 1 0) t in
          ap (λ (b : Bool). cond b (step ∷ back_to level later) (step ∷ back_to (suc level) later)) t ∙ ap (λ (l : List Step). step ∷ l) (back_to-take level later n (omega arith) d (omega (arith, e', w)))
      | inr f ↦ let w : cond {A = ℕ} (is_decision step) 1 0 ≡ 0 = ap (λ (b : Bool). cond b 1 0) f in
          ap (λ (b : Bool). cond b (step ∷ back_to level later) (step ∷ back_to (suc level) later)) f ∙ ap (λ (l : List Step). step ∷ l) (back_to-take (suc level) later n (omega arith) d (omega (arith, e', w)))
    ]
