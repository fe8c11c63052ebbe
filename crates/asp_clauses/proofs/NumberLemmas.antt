-- A trail as a number in base 3.
use Rattle.std.proofs.Common.{◌≡◌, ℕ, zero, suc, ◌+◌, ◌-◌, ◌*◌, ◌^◌, ◌<◌, ◌≤◌, Bool, true, false, cond, List, [], ◌∷◌, ◌++◌, length, ◌∙◌, ap, arith}
use Rattle.std.proofs.Math.Nat.{pow-suc}
use Rattle.std.proofs.lemmas.Bool.{cases_Bool}
use Rattle.std.proofs.Common.{inl, inr, lit<}
use Rattle.asp_clauses.specs.declared.trail.Step.{Step}
use Rattle.asp_clauses.specs.Trail.{digit, is_decision, number}

pub digit_decision : (step : Step) → is_decision step ≡ true → digit step ≡ 1
digit_decision step e = ap (λ (b : Bool). cond b 1 2) e

pub digit_implied : (step : Step) → is_decision step ≡ false → digit step ≡ 2
digit_implied step e = ap (λ (b : Bool). cond b 1 2) e

digit_bounds : (step : Step) → (1 ≤ digit step) × (digit step ≤ 2)
digit_bounds step = elim (cases_Bool (is_decision step)) [
  | inl t ↦ let d = digit_decision step t in (omega (arith, d), omega (arith, d))
  | inr f ↦ let d = digit_implied step f in (omega (arith, d), omega (arith, d))
]

pub three_pos : (n : ℕ) → 0 < 3 ^ n
three_pos zero = lit< tt
three_pos (suc n) = let p = pow-suc 3 n in let h = three_pos n in omega (arith, p, h)

-- the number before the last step
pub number-push : (atoms : ℕ) (steps : List Step) (step : Step) → number atoms (steps ++ step ∷ []) ≡ number atoms steps + digit step * 3 ^ (atoms - 1 - length steps)
unfolding number
number-push atoms [] step =
    let e : atoms - 1 - 0 ≡ atoms - 1 = omega arith in
    let p = ap (λ (n : ℕ). digit step * 3 ^ n) e in omega (arith, p)
number-push atoms (x ∷ xs) step =
    let h = number-push (atoms - 1) xs step in
    let e : atoms - 1 - suc (length xs) ≡ atoms - 1 - 1 - length xs = omega arith in
    let p = ap (λ (n : ℕ). digit step * 3 ^ n) e in omega (arith, h, p)

times_le : (a b x : ℕ) → a ≤ b → a * x ≤ b * x
times_le a b x h = grind arith

pub number-below : (atoms : ℕ) (steps : List Step) → length steps ≤ atoms → number atoms steps + 3 ^ (atoms - length steps) ≤ 3 ^ atoms
unfolding number
number-below atoms [] h =
    let e : atoms - 0 ≡ atoms = omega arith in
    let p = ap (λ (n : ℕ). 3 ^ n) e in omega (arith, p)
number-below atoms (x ∷ xs) h =
    let one : atoms ≡ suc (atoms - 1) = omega arith in
    let power : 3 ^ atoms ≡ 3 ^ (atoms - 1) * 3 = ap (λ (n : ℕ). 3 ^ n) one ∙ pow-suc 3 (atoms - 1) in
    let less = number-below (atoms - 1) xs (omega arith) in
    let e : atoms - suc (length xs) ≡ atoms - 1 - length xs = omega arith in
    let p = ap (λ (n : ℕ). 3 ^ n) e in
    let d = times_le (digit x) 2 (3 ^ (atoms - 1)) (digit_bounds x).1 in
    omega (arith, power, less, p, d)

-- so it has no more digits than atoms
pub number-lt : (atoms : ℕ) (steps : List Step) → length steps ≤ atoms → number atoms steps < 3 ^ atoms
number-lt atoms steps h = let b = number-below atoms steps h in let p = three_pos (atoms - length steps) in omega (arith, b, p)

-- one more step raises it
pub number_raised : (atoms : ℕ) (steps : List Step) (step : Step) → number atoms steps + 1 ≤ number atoms (steps ++ step ∷ [])
number_raised atoms steps step =
    let e = number-push atoms steps step in
    let p = three_pos (atoms - 1 - length steps) in
    let d = times_le 1 (digit step) (3 ^ (atoms - 1 - length steps)) (digit_bounds step).0 in
    omega (arith, e, p, d)

-- and so does an implied step in place of a decision and all after it
pub number_replaced : (atoms : ℕ) (before later : List Step) (old new : Step) → length (before ++ old ∷ later) ≤ atoms → is_decision old ≡ true → is_decision new ≡ false → number atoms (before ++ old ∷ later) + 1 ≤ number atoms (before ++ new ∷ [])
unfolding number
number_replaced atoms [] later old new h o n =
    let one = digit_decision old o in let two = digit_implied new n in
    let less = number-lt (atoms - 1) later (omega arith) in
    let a = ap (λ (x : ℕ). x * 3 ^ (atoms - 1)) one in let b = ap (λ (x : ℕ). x * 3 ^ (atoms - 1)) two in
    omega (arith, less, a, b)
number_replaced atoms (x ∷ xs) later old new h o n =
    let less = number_replaced (atoms - 1) xs later old new (omega arith) o n in omega (arith, less)
