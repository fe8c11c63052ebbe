-- Integers that stand in a row among ascending constants: where the first and the last one of an interval stand as far
-- apart as they have to, all of it stands there.
use Rattle.std.proofs.Common.{ℕ, ℤ, zero, suc, ◌≡◌, ◌<◌, ◌≤◌, ◌+◌, ◌-◌, refl, sym, ◌∙◌, ap, subst, inl, inr, List, map, length, get_or, pos, ◌+ℤ◌, ◌≤ℤ◌, ◌<ℤ◌, arith}
use Rattle.std.specs.declared.cmp.Ordering.TheVariants.{Less}
use Rattle.std.proofs.lemmas.Cmp.{int_ranked}
use Rattle.std.proofs.lemmas.Int.{ints, by_lt_z}
use Rattle.asp_defs.specs.declared.ground.Const.{Const}
use Rattle.asp_defs.specs.declared.ground.Const.TheVariants as const
use Rattle.asp_defs.specs.Lists.{IsIn}
use Rattle.asp_defs.specs.Constants.{const_cmp, integers_from, interval_length}
use Rattle.asp_walk.proofs.Lists.{get_is_in}
use Rattle.asp_atoms.specs.Ascending.{Ascends}
use Rattle.asp_atoms.proofs.Integers.{ends, swapped}
use Rattle.asp_atoms.proofs.Positions.{ascends_at}
use Rattle.asp_ground.specs.Gaps.{IsAt, HasAll}

abbrev some_const : Const
some_const = const.Int (pos 0)

-- ---- what is below an integer is a lower one

record Lower (c : Const) (z : ℤ) : Type 0 where
  value : ℤ
  is : c ≡ const.Int value
  less : value <ℤ z

below_integer : (c : Const) (z : ℤ) → const_cmp c (const.Int z) ≡ Less → Lower c z
below_integer (const.Int x) z e = record { value = x; is = refl; less = int_ranked x z Less (sym e) }
below_integer (const.Sym s) z e = absurd (cc)

abbrev value_of : Const → ℤ
value_of (const.Int x) = x
value_of (const.Sym s) = pos 0

-- ---- integers are at least as far apart as their places

spaced : (cs : List Const) → Ascends const_cmp cs → (m i : ℕ) (x z : ℤ) → i + m < length cs → get_or cs i some_const ≡ const.Int x → get_or cs (i + m) some_const ≡ const.Int z → (x +ℤ pos m) ≤ℤ z
spaced cs up zero i x z h first last =
    let e : i + zero ≡ i = omega arith in
    let same : x ≡ z = ap value_of (sym first ∙ subst (λ n. get_or cs n some_const ≡ const.Int z) e last) in
    omega (arith, ints, same)
spaced cs up (suc m) i x z h first last =
    let inside : i + m < length cs = omega (arith, h) in
    let step : i + m < i + suc m = omega arith in
    let lower = below_integer (get_or cs (i + m) some_const) z
    (subst (λ (c : Const). const_cmp (get_or cs (i + m) some_const) c ≡ Less) last (ascends_at const_cmp cs up (i + m) (i + suc m) some_const step h)) in
    let rest = spaced cs up m i x lower.value inside first lower.is in
    let less = lower.less in
    omega (arith, ints, rest, less)

-- an integer between two that stand as far apart as their places
between : (cs : List Const) → Ascends const_cmp cs → (k m i : ℕ) (x : ℤ) → i + (k + m) < length cs → get_or cs i some_const ≡ const.Int x → get_or cs (i + (k + m)) some_const ≡ const.Int (x +ℤ pos (k + m)) → get_or cs (i + k) some_const ≡ const.Int (x +ℤ pos k)
between cs up k zero i x h first last =
    let e : k + zero ≡ k = omega arith in
    subst (λ n. get_or cs (i + n) some_const ≡ const.Int (x +ℤ pos n)) e last
between cs up k (suc m) i x h first last =
    let inside : i + k < length cs = omega (arith, h) in
    let step : i + k < i + (k + suc m) = omega arith in
    let e : i + (k + suc m) ≡ (i + k) + suc m = omega arith in
    let within : (i + k) + suc m < length cs = omega (arith, h) in
    let lower = below_integer (get_or cs (i + k) some_const) (x +ℤ pos (k + suc m))
    (subst (λ (c : Const). const_cmp (get_or cs (i + k) some_const) c ≡ Less) last (ascends_at const_cmp cs up (i + k) (i + (k + suc m)) some_const step h)) in
    let before = spaced cs up k i x lower.value inside first lower.is in
    let behind = spaced cs up (suc m) (i + k) lower.value (x +ℤ pos (k + suc m)) within lower.is
    (subst (λ n. get_or cs n some_const ≡ const.Int (x +ℤ pos (k + suc m))) e last) in
    let same : lower.value ≡ x +ℤ pos k = omega (arith, ints, before, behind) in
    lower.is ∙ ap const.Int same

-- ---- the integers of an interval

run_in : (cs : List Const) (n : ℕ) (x : ℤ) → ((k : ℕ) → k < n → IsIn (const.Int (x +ℤ pos k)) cs) → (c : Const) → IsIn c (map const.Int (integers_from x n)) → IsIn c cs
run_in cs zero x each c i = absurd i
run_in cs (suc n) x each c (inl e) =
    let here : x +ℤ pos zero ≡ x = omega (arith, ints) in
    subst (λ d. IsIn d cs) (ap const.Int here ∙ sym e) (each zero (omega arith))
run_in cs (suc n) x each c (inr i) = run_in cs n (x +ℤ pos 1) (λ k h. next k (each (suc k) (omega (arith, h)))) c i
  where
    next : (k : ℕ) → IsIn (const.Int (x +ℤ pos (suc k))) cs → IsIn (const.Int ((x +ℤ pos 1) +ℤ pos k)) cs
    next k j =
        let same : x +ℤ pos (suc k) ≡ (x +ℤ pos 1) +ℤ pos k = omega (arith, ints) in
        subst (λ (z : ℤ). IsIn (const.Int z) cs) same j

last_is : (low high : ℤ) (steps : ℕ) → interval_length low high ≡ steps + 1 → high ≡ low +ℤ pos steps
last_is low high steps long =
    by_lt_z high low
    (λ turned. let none = swapped low high turned in absurd (omega (arith, long, none)))
    (λ le.
    let end : low +ℤ pos (steps + 1) ≡ high +ℤ pos 1 = subst (λ n. low +ℤ pos n ≡ high +ℤ pos 1) long (ends low high le) in
    omega (arith, ints, end))

pub interval_there : (cs : List Const) → Ascends const_cmp cs → (low high : ℤ) (first steps : ℕ) → interval_length low high ≡ steps + 1 → IsAt cs (const.Int low) first → IsAt cs (const.Int high) (first + steps) → HasAll cs (map const.Int (integers_from low (interval_length low high)))
interval_there cs up low high first steps long begins finishes c i = run_in cs (interval_length low high) low each c i
  where
    last : get_or cs (first + steps) some_const ≡ const.Int (low +ℤ pos steps)
    last = finishes.is some_const ∙ ap const.Int (last_is low high steps long)

    at : (k m : ℕ) → k + m ≡ steps → IsIn (const.Int (low +ℤ pos k)) cs
    at k m e =
        let within : first + steps < length cs = finishes.inside in
        let inside : first + (k + m) < length cs = omega (arith, e, within) in
        let here : first + k < length cs = omega (arith, inside) in
        subst (λ d. IsIn d cs)
        (between cs up k m first low inside (begins.is some_const) (subst (λ n. get_or cs (first + n) some_const ≡ const.Int (low +ℤ pos n)) (sym e) last))
        (get_is_in cs (first + k) some_const here)

    each : (k : ℕ) → k < interval_length low high → IsIn (const.Int (low +ℤ pos k)) cs
    each k h =
        let few : k ≤ steps = omega (arith, h, long) in
        at k (steps - k) (omega (arith, few))

-- an interval without integers is there
pub nothing_there : (cs : List Const) (low : ℤ) (n : ℕ) → n ≡ 0 → HasAll cs (map const.Int (integers_from low n))
nothing_there cs low n e c i = absurd (subst (λ m. IsIn c (map const.Int (integers_from low m))) e i)
