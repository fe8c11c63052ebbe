-- Counts that end at the greatest one shown, and the limits that they pass.
use Rattle.std.proofs.Common.{ℕ, ◌≡◌, ◌+◌, ◌<◌, ◌≤◌, min, max, refl, sym, ◌∙◌, ap, subst, inl, inr, Bool, true, cond, List, [], ◌∷◌, map, length, length-append, arith, Option, Some, None, is_none, IsTrue}
use Rattle.std.specs.List.{flat_map, fold}
use Rattle.std.specs.Option.{option_or, option_map}
use Rattle.std.proofs.lemmas.Bool.{cases_lt, lt-ltb, le-ltb}
use Rattle.std.proofs.lemmas.List.{take_all, length-map}
use Rattle.asp_defs.specs.declared.faults.Which.{Which}
use Rattle.asp_defs.specs.declared.faults.Which.TheVariants.{Constants, Atoms, Arguments}
use Rattle.asp_defs.specs.declared.syntax.Atom.{Atom}
use Rattle.asp_defs.specs.declared.syntax.Rule.{Rule}
use Rattle.asp_defs.specs.declared.syntax.Part.{Part}
use Rattle.asp_defs.specs.declared.syntax.Program.{Program}
use Rattle.asp_defs.specs.Lists.{IsIn}
use Rattle.asp_defs.specs.Bases.{Predicate, predicates, rule_predicates, atom_predicate, last_level}
use Rattle.asp_defs.specs.Constants.{level_rules, rules_to}
use Rattle.asp_defs.specs.Safety.{all_rules}
use Rattle.asp_defs.specs.Limits.{limit, most_shown, past_limit, rule_atoms, most_arguments, too_large_in}
use Rattle.asp_defs.specs.Checks.{is_checked, check_refusal, safety_refusal, form_refusal, size_refusal}
use Rattle.asp_defs.specs.Sizes.{constant_total, atom_total}
use Rattle.asp_defs.proofs.Lists.{map_at, map_from}
use Rattle.asp_defs.proofs.TextRefutations.{clash}
use Rattle.asp_atoms.specs.Counts.{shown}
use Rattle.asp_atoms.specs.Answers.{base_too_large}
use Rattle.asp_atoms.proofs.Orders.{predicate_lawful}
use Rattle.asp_atoms.proofs.Ascending.{in_distinct}
use Rattle.asp_walk.proofs.Reading.{rules_predicates_are}

-- ---- sums that end at the greatest number shown

pub shown_add : (a b : ℕ) → shown (shown a + b) ≡ shown (a + b)
shown_add a b = omega arith

-- ---- limits

abbrev past : Which → ℕ → Bool → Option (Which × ℕ)
past which count b = cond b (Some (which, min count most_shown)) None

passed : (which : Which) (count : ℕ) → limit which < count → past_limit which count ≡ Some (which, min count most_shown)
passed which count h = ap (past which count) (lt-ltb (limit which) count h)

pub limit_kept : (which : Which) (count : ℕ) → count ≤ limit which → past_limit which count ≡ None
limit_kept which count h = ap (past which count) (le-ltb (limit which) count h)

pub many_constants : (p : Program) (size : ℕ) → size ≡ min (constant_total p) most_shown → 4096 < size → base_too_large p ≡ Some (Constants, size)
many_constants p size e h =
    let over : limit Constants < constant_total p = omega (arith, e, h) in
    ap (λ o. option_or o (past_limit Atoms (atom_total p))) (passed Constants (constant_total p) over)
    ∙ ap (λ n. Some (Constants, n)) (sym e)

pub many_atoms : (p : Program) (total : ℕ) → constant_total p ≤ 4096 → total ≡ min (atom_total p) most_shown → 262144 < total → base_too_large p ≡ Some (Atoms, total)
many_atoms p total few e h =
    let over : limit Atoms < atom_total p = omega (arith, e, h) in
    ap (λ o. option_or o (past_limit Atoms (atom_total p))) (limit_kept Constants (constant_total p) few)
    ∙ (passed Atoms (atom_total p) over ∙ ap (λ n. Some (Atoms, n)) (sym e))

pub few_of_both : (p : Program) → constant_total p ≤ 4096 → atom_total p ≤ 262144 → base_too_large p ≡ None
few_of_both p few small =
    ap (λ o. option_or o (past_limit Atoms (atom_total p))) (limit_kept Constants (constant_total p) few)
    ∙ limit_kept Atoms (atom_total p) small

-- ---- the arity of a checked program's predicates

pub first_none : {A : Type 0} (a b : Option A) → option_or a b ≡ None → a ≡ None
first_none None b e = refl
first_none (Some x) b e = e

pub second_none : {A : Type 0} (a b : Option A) → option_or a b ≡ None → b ≡ None
second_none None b e = e
second_none (Some x) b e = absurd (cc)

pub no_one : {A : Type 0} (a : Option A) → is_none a ≡ true → a ≡ None
no_one None e = refl
no_one (Some x) e = absurd (cc)

pub unmapped : {A B : Type 0} (f : A → B) (a : Option A) → option_map f a ≡ None → a ≡ None
unmapped f None e = refl
unmapped f (Some x) e = absurd (cc)

pub within_limit : (which : Which) (count : ℕ) → past_limit which count ≡ None → count ≤ limit which
within_limit which count e =
    elim (cases_lt (limit which) count) [
      | inl over ↦
          let bad : Some (which, min count most_shown) ≡ None = sym (passed which count over) ∙ e in absurd (clash (ap is_none bad))
      | inr few ↦ few
    ]

max_start : (a : ℕ) (xs : List ℕ) → a ≤ fold max a xs
max_start a [] = omega arith
max_start a (x ∷ xs) = let h = max_start (max a x) xs in omega (arith, h)

pub max_member : (a : ℕ) (xs : List ℕ) (x : ℕ) → IsIn x xs → x ≤ fold max a xs
max_member a [] x i = absurd i
max_member a (y ∷ ys) x (inl e) = let h = max_start (max a y) ys in omega (arith, h, e)
max_member a (y ∷ ys) x (inr i) = max_member (max a y) ys x i

pub not_large : (p : Program) → IsTrue (is_checked p) → too_large_in p ≡ None
not_large p h =
    let none = no_one (check_refusal p) h in
    let sized = second_none (form_refusal p) (size_refusal p) (second_none (safety_refusal p) (option_or (form_refusal p) (size_refusal p)) none) in
    unmapped _ (too_large_in p) sized

most_within : (p : Program) → IsTrue (is_checked p) → most_arguments p ≤ 16
most_within p h =
    let arguments : past_limit Arguments (most_arguments p) ≡ None = first_none _ _ (second_none _ _ (not_large p h)) in
    within_limit Arguments (most_arguments p) arguments

pub levels_long : (p : Program) → length (level_rules p) ≡ last_level p
levels_long p =
    let long = length-append (map (λ (part : Part). part.rules) p.levels) (p.cons ∷ []) in
    let same = length-map p.levels (λ (part : Part). part.rules) in
    omega (arith, long, same)

pub short_predicates : (p : Program) → IsTrue (is_checked p) → (q : Predicate) → IsIn q (predicates p (last_level p)) → q.arity ≤ 16
short_predicates p h q i =
    let written : IsIn q (flat_map rule_predicates (rules_to p (last_level p))) = in_distinct predicate_lawful (flat_map rule_predicates (rules_to p (last_level p))) q i in
    let atomic : IsIn q (map atom_predicate (flat_map rule_atoms (rules_to p (last_level p)))) =
    subst (λ l. IsIn q l) (sym (rules_predicates_are (rules_to p (last_level p)))) written in
    let a = map_at atom_predicate (flat_map rule_atoms (rules_to p (last_level p))) q atomic in
    let all : rules_to p (last_level p) ≡ all_rules p =
    ap (flat_map (λ (rules : List Rule). rules)) (take_all (last_level p) (level_rules p) (let e = levels_long p in omega (arith, e))) in
    let there : IsIn a.0 (flat_map rule_atoms (all_rules p)) = subst (λ rs. IsIn a.0 (flat_map rule_atoms rs)) all a.1 in
    let most : length a.0.args ≤ most_arguments p =
    max_member 0 (map (λ (b : Atom). length b.args) (flat_map rule_atoms (all_rules p))) (length a.0.args)
    (map_from (λ (b : Atom). length b.args) (flat_map rule_atoms (all_rules p)) a.0 there) in
    let top = most_within p h in
    let arity : q.arity ≡ length a.0.args = ap (λ (r : Predicate). r.arity) a.2 in
    omega (arith, most, top, arity)
