-- Ranks read as digits: nothing is cut off where the whole number is small.
use Rattle.std.proofs.Common.{ℕ, ◌≡◌, ◌<◌, ◌≤◌, ◌+◌, ◌*◌, refl, ◌∙◌, ap, inl, inr, List, [], ◌∷◌, map, arith}
use Rattle.std.specs.List.{fold}
use Rattle.std.proofs.Math.Nat.{mul-le-mul_left}
use Rattle.asp_defs.specs.Lists.{IsIn}
use Rattle.asp_template.specs.declared.template.Slot.{Slot}
use Rattle.asp_template.specs.Ranks.{capped}
use Rattle.asp_template.specs.Templates.{slot_rank, with_digit}

abbrev pub read : ℕ → ℕ → List ℕ → ℕ
read size number ranks = fold (λ n rank. n * size + rank) number ranks

-- digits behind a number make it no smaller
grows : (size number : ℕ) (ranks : List ℕ) → ((rank : ℕ) → IsIn rank ranks → rank < size) → number ≤ read size number ranks
grows size number [] h = omega arith
grows size number (rank ∷ ranks) h =
    let some : 1 ≤ size = let first = h rank (inl refl) in omega arith in
    let more = mul-le-mul_left number some in
    let rest = grows size (number * size + rank) ranks (λ r i. h r (inr i)) in
    omega (arith, more, rest)

capped_small : (n : ℕ) → n ≤ 4294967295 → capped n ≡ n
capped_small n h = omega arith

pub read_capped : (size : ℕ) (ranks : List ℕ) (number : ℕ) (slots : List Slot) → ((rank : ℕ) → IsIn rank (map (slot_rank ranks) slots) → rank < size) → read size number (map (slot_rank ranks) slots) ≤ 4294967295 → fold (with_digit size ranks) number slots ≡ read size number (map (slot_rank ranks) slots)
read_capped size ranks number [] h small = refl
read_capped size ranks number (slot ∷ slots) h small =
    let rank : ℕ = slot_rank ranks slot in
    let next : number * size + rank ≤ 4294967295 =
    let up = grows size (number * size + rank) (map (slot_rank ranks) slots) (λ r i. h r (inr i)) in omega (arith, up, small) in
    let front : number * size ≤ 4294967295 = omega (arith, next) in
    let step : with_digit size ranks number slot ≡ number * size + rank =
    ap (λ n. capped (n + rank)) (capped_small (number * size) front) ∙ capped_small (number * size + rank) next in
    ap (λ n. fold (with_digit size ranks) n slots) step
    ∙ read_capped size ranks (number * size + rank) slots (λ r i. h r (inr i)) small
