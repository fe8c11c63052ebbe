-- lemmas on the steps of a trail: places, levels, and going back
use Rattle.std.proofs.Common.{◌≡◌, ℕ, suc, zero, ◌+◌, ◌<◌, ◌≤◌, true, false, not, cond, List, [], ◌∷◌, length, take, Option, Some, None, refl, sym, ap, ◌∙◌, ⊎_elim, arith, add-one}
use Rattle.std.specs.Option.{is_some}
use Rattle.std.proofs.lemmas.List.{length-take}
use Rattle.std.proofs.lemmas.List.Sums.{sum_by-cons, sum_by-take-le, count_by_more_yes}
use Rattle.std.proofs.lemmas.Bool.{cases_Bool, cases_lt, cond-true, cond-false, false≢true}
use Rattle.asp_clauses.specs.declared.trail.Step.{Step}
use Rattle.asp_clauses.specs.Literal.{negated}
use Rattle.asp_clauses.specs.Trail.{no_step, step_at, literal_at, is_decision, decisions, level_at, IsPlaced, IsUnassigned, IsLawful, back_to}
use Rattle.asp_clauses.proofs.LiteralLemmas.{negated-half}
use Rattle.asp_clauses.proofs.StepsLemmas.{step_at-take, decisions-take-mono}

-- ---- the beginning of a trail

-- what is placed in a beginning is placed at a place before its end
pub placed_before : (steps : List Step) (k literal : ℕ) → IsPlaced (take k steps) literal → (p : ℕ) × (p < k) × (p < length steps) × (literal_at steps p ≡ literal)
placed_before steps k literal placed =
    let below : placed.0 < k = omega (arith, placed.1, length-take k steps) in
    (placed.0, below, omega (arith, placed.1, length-take k steps), ap (λ (s : Step). s.literal) (sym (step_at-take steps k placed.0 below)) ∙ placed.2)

-- ---- levels

pub level_at-le : (steps : List Step) (p q : ℕ) → p ≤ q → level_at steps p ≤ level_at steps q
level_at-le steps p q h = decisions-take-mono steps (p + 1) (q + 1) (omega arith)

pub level_at-le-decisions : (steps : List Step) (p : ℕ) → level_at steps p ≤ decisions steps
level_at-le-decisions steps p = sum_by-take-le (λ (s : Step). cond (is_decision s) 1 0) steps (p + 1)

pub level_at-decision : (steps : List Step) (p : ℕ) → p < length steps → is_decision (step_at steps p) ≡ true → level_at steps p ≡ decisions (take p steps) + 1
level_at-decision steps p within is = count_by_more_yes is_decision steps p no_step within is

-- what stands before a decision is of a lower level
pub level_at-before-decision : (steps : List Step) (p q : ℕ) → p < q → q < length steps → is_decision (step_at steps q) ≡ true → level_at steps p < level_at steps q
level_at-before-decision steps p q h within is =
    omega (arith, level_at-decision steps q within is, decisions-take-mono steps (p + 1) q (omega arith))

pub not_decision-at-zero : (steps : List Step) (p : ℕ) → p < length steps → level_at steps p ≡ 0 → is_decision (step_at steps p) ≡ false
not_decision-at-zero steps p within zero_level =
    ⊎_elim
    (λ (t : is_decision (step_at steps p) ≡ true). absurd (omega (arith, level_at-decision steps p within t)))
    (λ (f : is_decision (step_at steps p) ≡ false). f)
    (cases_Bool (is_decision (step_at steps p)))

-- ---- the reason of an implied step

reason_of : (reason : Option ℕ) → not (is_some reason) ≡ false → (number : ℕ) × (reason ≡ Some number)
reason_of None h = absurd (false≢true (sym h))
reason_of (Some n) h = (n, refl)

pub has_reason : (step : Step) → is_decision step ≡ false → (number : ℕ) × (step.reason ≡ Some number)
has_reason step h = reason_of step.reason h

pub no_reason : (step : Step) → step.reason ≡ None → is_decision step ≡ true
no_reason step h = ap (λ (r : Option ℕ). not (is_some r)) h

-- ---- going back

back_to-zero-decision : (step : Step) (later : List Step) → is_decision step ≡ true → back_to 0 (step ∷ later) ≡ []
unfolding back_to
back_to-zero-decision step later h = cond-true (is_decision step) [] (step ∷ back_to 0 later) h

back_to-zero-implied : (step : Step) (later : List Step) → is_decision step ≡ false → back_to 0 (step ∷ later) ≡ step ∷ back_to 0 later
unfolding back_to
back_to-zero-implied step later h = cond-false (is_decision step) [] (step ∷ back_to 0 later) h

back_to-suc-decision : (level : ℕ) (step : Step) (later : List Step) → is_decision step ≡ true → back_to (suc level) (step ∷ later) ≡ step ∷ back_to level later
unfolding back_to
back_to-suc-decision level step later h = cond-true (is_decision step) (step ∷ back_to level later) (step ∷ back_to (suc level) later) h

back_to-suc-implied : (level : ℕ) (step : Step) (later : List Step) → is_decision step ≡ false → back_to (suc level) (step ∷ later) ≡ step ∷ back_to (suc level) later
unfolding back_to
back_to-suc-implied level step later h = cond-false (is_decision step) (step ∷ back_to level later) (step ∷ back_to (suc level) later) h

back_to-nil : (level : ℕ) → back_to level [] ≡ []
unfolding back_to
back_to-nil level = refl

decisions-cons-yes : (step : Step) (steps : List Step) → is_decision step ≡ true → decisions (step ∷ steps) ≡ decisions steps + 1
decisions-cons-yes step steps h =
    omega (arith, sum_by-cons (λ (s : Step). cond (is_decision s) 1 0) step steps, cond-true {A = ℕ} (is_decision step) 1 0 h)

decisions-cons-no : (step : Step) (steps : List Step) → is_decision step ≡ false → decisions (step ∷ steps) ≡ decisions steps
decisions-cons-no step steps h =
    omega (arith, sum_by-cons (λ (s : Step). cond (is_decision s) 1 0) step steps, cond-false {A = ℕ} (is_decision step) 1 0 h)

-- a place of at most this level stands before the end
kept : (steps : List Step) (level p : ℕ) → p < length steps → decisions (take (suc p) steps) ≤ level → p < length (back_to level steps)
kept [] level p h l = absurd (omega (arith, h))
kept (s ∷ later) zero zero h l =
    ⊎_elim
    (λ (d : is_decision s ≡ true). absurd (omega (arith, l, decisions-cons-yes s [] d)))
    (λ (n : is_decision s ≡ false). rw (back_to-zero-implied s later n) (omega arith))
    (cases_Bool (is_decision s))
kept (s ∷ later) zero (suc p) h l =
    ⊎_elim
    (λ (d : is_decision s ≡ true). absurd (omega (arith, l, decisions-cons-yes s (take (suc p) later) d)))
    (λ (n : is_decision s ≡ false).
    let r : p < length (back_to 0 later) = kept later zero p (omega (arith, h)) (omega (arith, l, decisions-cons-no s (take (suc p) later) n)) in
    rw (back_to-zero-implied s later n) (omega arith))
    (cases_Bool (is_decision s))
kept (s ∷ later) (suc level) zero h l =
    ⊎_elim
    (λ (d : is_decision s ≡ true). rw (back_to-suc-decision level s later d) (omega arith))
    (λ (n : is_decision s ≡ false). rw (back_to-suc-implied level s later n) (omega arith))
    (cases_Bool (is_decision s))
kept (s ∷ later) (suc level) (suc p) h l =
    ⊎_elim
    (λ (d : is_decision s ≡ true).
    let r : p < length (back_to level later) = kept later level p (omega (arith, h)) (omega (arith, l, decisions-cons-yes s (take (suc p) later) d)) in
    rw (back_to-suc-decision level s later d) (omega arith))
    (λ (n : is_decision s ≡ false).
    let r : p < length (back_to (suc level) later) = kept later (suc level) p (omega (arith, h)) (omega (arith, l, decisions-cons-no s (take (suc p) later) n)) in
    rw (back_to-suc-implied level s later n) (omega arith))
    (cases_Bool (is_decision s))

-- what the trail that went back has at a place
record IsKept (steps back : List Step) (level p : ℕ) : Type 0 where
  within : p < length steps
  low : decisions (take (suc p) steps) ≤ level
  same : step_at back p ≡ step_at steps p

IsKept-first : (s : Step) (later back : List Step) (level : ℕ) → decisions (s ∷ []) ≤ level → IsKept (s ∷ later) (s ∷ back) level zero
IsKept-first s later back level l = record { within = omega arith; low = l; same = refl }

IsKept-next : (s : Step) (later back : List Step) (level low p : ℕ) → decisions (s ∷ take (suc p) later) ≤ level → IsKept later back low p → IsKept (s ∷ later) (s ∷ back) level (suc p)
IsKept-next s later back level low p l k = record { within = omega (arith, k.within); low = l; same = k.same }

kept_is : (steps : List Step) (level p : ℕ) → p < length (back_to level steps) → IsKept steps (back_to level steps) level p
kept_is [] level p h = absurd (omega (arith, h, ap (λ (l : List Step). length l) (back_to-nil level)))
kept_is (s ∷ later) zero zero h =
    ⊎_elim
    (λ (d : is_decision s ≡ true). absurd (omega (arith, h, ap (λ (l : List Step). length l) (back_to-zero-decision s later d))))
    (λ (n : is_decision s ≡ false). rw (back_to-zero-implied s later n) (IsKept-first s later (back_to 0 later) 0 (omega (arith, decisions-cons-no s [] n))))
    (cases_Bool (is_decision s))
kept_is (s ∷ later) zero (suc p) h =
    ⊎_elim
    (λ (d : is_decision s ≡ true). absurd (omega (arith, h, ap (λ (l : List Step). length l) (back_to-zero-decision s later d))))
    (λ (n : is_decision s ≡ false).
    let k : IsKept later (back_to 0 later) 0 p = kept_is later zero p (omega (arith, h, ap (λ (l : List Step). length l) (back_to-zero-implied s later n))) in
    rw (back_to-zero-implied s later n) (IsKept-next s later (back_to 0 later) 0 0 p (omega (arith, k.low, decisions-cons-no s (take (suc p) later) n)) k))
    (cases_Bool (is_decision s))
kept_is (s ∷ later) (suc level) zero h =
    ⊎_elim
    (λ (d : is_decision s ≡ true). rw (back_to-suc-decision level s later d) (IsKept-first s later (back_to level later) (suc level) (omega (arith, decisions-cons-yes s [] d))))
    (λ (n : is_decision s ≡ false). rw (back_to-suc-implied level s later n) (IsKept-first s later (back_to (suc level) later) (suc level) (omega (arith, decisions-cons-no s [] n))))
    (cases_Bool (is_decision s))
kept_is (s ∷ later) (suc level) (suc p) h =
    ⊎_elim
    (λ (d : is_decision s ≡ true).
    let k : IsKept later (back_to level later) level p = kept_is later level p (omega (arith, h, ap (λ (l : List Step). length l) (back_to-suc-decision level s later d))) in
    rw (back_to-suc-decision level s later d) (IsKept-next s later (back_to level later) (suc level) level p (omega (arith, k.low, decisions-cons-yes s (take (suc p) later) d)) k))
    (λ (n : is_decision s ≡ false).
    let k : IsKept later (back_to (suc level) later) (suc level) p = kept_is later (suc level) p (omega (arith, h, ap (λ (l : List Step). length l) (back_to-suc-implied level s later n))) in
    rw (back_to-suc-implied level s later n) (IsKept-next s later (back_to (suc level) later) (suc level) (suc level) p (omega (arith, k.low, decisions-cons-no s (take (suc p) later) n)) k))
    (cases_Bool (is_decision s))

pub kept_place : (level : ℕ) (steps : List Step) (p : ℕ) → p < length steps → level_at steps p ≤ level → p < length (back_to level steps)
kept_place level steps p h l = kept steps level p h (rw add-one at l)

pub back_to-within : (level : ℕ) (steps : List Step) (p : ℕ) → p < length (back_to level steps) → p < length steps
back_to-within level steps p h = (kept_is steps level p h).within

pub back_to-level : (level : ℕ) (steps : List Step) (p : ℕ) → p < length (back_to level steps) → level_at steps p ≤ level
back_to-level level steps p h = rw add-one ((kept_is steps level p h).low)

pub back_to-step : (level : ℕ) (steps : List Step) (p : ℕ) → p < length (back_to level steps) → step_at (back_to level steps) p ≡ step_at steps p
back_to-step level steps p h = (kept_is steps level p h).same

pub decisions-back_to : (steps : List Step) (level : ℕ) → decisions (back_to level steps) ≤ level
decisions-back_to [] level = rw (back_to-nil level) (omega arith)
decisions-back_to (s ∷ later) zero =
    ⊎_elim
    (λ (d : is_decision s ≡ true). rw (back_to-zero-decision s later d) (omega arith))
    (λ (n : is_decision s ≡ false). rw (back_to-zero-implied s later n) (omega (arith, decisions-cons-no s (back_to 0 later) n, decisions-back_to later zero)))
    (cases_Bool (is_decision s))
decisions-back_to (s ∷ later) (suc level) =
    ⊎_elim
    (λ (d : is_decision s ≡ true). rw (back_to-suc-decision level s later d) (omega (arith, decisions-cons-yes s (back_to level later) d, decisions-back_to later level)))
    (λ (n : is_decision s ≡ false). rw (back_to-suc-implied level s later n) (omega (arith, decisions-cons-no s (back_to (suc level) later) n, decisions-back_to later (suc level))))
    (cases_Bool (is_decision s))

-- a literal that is placed at most at this level stays
pub placed_back : (level : ℕ) (steps : List Step) (p : ℕ) → p < length steps → level_at steps p ≤ level → IsPlaced (back_to level steps) (literal_at steps p)
placed_back level steps p h l =
    let within : p < length (back_to level steps) = kept_place level steps p h l in
    (p, within, ap (λ (s : Step). s.literal) (back_to-step level steps p within))

-- and one of a higher level goes, with its atom
pub unassigned_back : (atoms : ℕ) (clauses : List (List ℕ)) (level : ℕ) (steps : List Step) (q : ℕ) → IsLawful atoms clauses steps → q < length steps → level < level_at steps q → IsUnassigned (back_to level steps) (negated (literal_at steps q))
unassigned_back atoms clauses level steps q lawful h l p within same =
    let inside : p < length steps = back_to-within level steps p within in
    let low : level_at steps p ≤ level = back_to-level level steps p within in
    let read : literal_at (back_to level steps) p ≡ literal_at steps p = ap (λ (s : Step). s.literal) (back_to-step level steps p within) in
    let before : p < q = ⊎_elim (λ (b : p < q). b) (λ (n : q ≤ p). absurd (omega (arith, level_at-le steps q p n))) (cases_lt p q) in
    lawful.distinct p q before h (omega (arith, read, same, negated-half (literal_at steps q)))
