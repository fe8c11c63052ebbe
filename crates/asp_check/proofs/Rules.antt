-- All rules of a program, and its first refusal.
use Rattle.std.proofs.Common.{ℕ, ◌≡◌, ◌+◌, ◌<◌, sym, ◌∙◌, ap, suc, List, [], ◌∷◌, ◌++◌, map, length, get_or, drop, Option, Some, None, append-nil, append_assoc, length-append, arith, Bor}
use Rattle.std.specs.List.{flat_map}
use Rattle.std.specs.Option.{option_or, option_map}
use Rattle.std.proofs.Math.Seq.{drop-cons}
use Rattle.asp_defs.specs.declared.faults.Var.{Var}
use Rattle.asp_defs.specs.declared.faults.Which.{Which}
use Rattle.asp_defs.specs.declared.syntax.Term.{Term}
use Rattle.asp_defs.specs.declared.syntax.Rule.{Rule}
use Rattle.asp_defs.specs.declared.syntax.Part.{Part}
use Rattle.asp_defs.specs.declared.syntax.Program.{Program}
use Rattle.asp_defs.specs.Safety.{all_rules, first_unsafe, first_unsafe_from, unsafe_in, shown_number, shown_variable}
use Rattle.asp_defs.specs.ConstraintPart.{headed_in, level_rule_count}
use Rattle.asp_defs.specs.Limits.{too_large_in}
use Rattle.asp_defs.specs.Checks.{CheckRefusal, UnsafeRule, HeadedRule, PastLimit, form_refusal, size_refusal, check_refusal}

-- the rules of the levels, and then those of the constraint part
pub rules_are : (levels : List Part) (cons : List Rule) → flat_map (λ (rules : List Rule). rules) (map (λ (part : Part). part.rules) levels ++ (cons ∷ [])) ≡ flat_map (λ (part : Part). part.rules) levels ++ cons
rules_are [] cons = append-nil cons
rules_are (part ∷ levels) cons =
    ap (λ rs. part.rules ++ rs) (rules_are levels cons)
    ∙ sym (append_assoc part.rules (flat_map (λ (q : Part). q.rules) levels) cons)

pub count_before : (p : Program) → length (all_rules p) ≡ level_rule_count p + length p.cons
count_before p = ap length (rules_are p.levels p.cons) ∙ length-append (flat_map (λ (part : Part). part.rules) p.levels) p.cons

-- the first rule is unsafe, or those behind it are looked at
first_is : (n : ℕ) (r : Rule) (rs : List Rule) (v : Term) → first_unsafe r ≡ Some v → first_unsafe_from n (r ∷ rs) ≡ Some (shown_number n, shown_variable v)
first_is n r rs v e = ap (λ o. elim o [ None ↦ first_unsafe_from (suc n) rs | Some w ↦ Some (shown_number n, shown_variable w) ]) e

first_isnt : (n : ℕ) (r : Rule) (rs : List Rule) → first_unsafe r ≡ None → first_unsafe_from n (r ∷ rs) ≡ first_unsafe_from (suc n) rs
first_isnt n r rs e = ap (λ o. elim o [ None ↦ first_unsafe_from (suc n) rs | Some w ↦ Some (shown_number n, shown_variable w) ]) e

abbrev rules_of : List (Bor Rule) → List Rule
rules_of rules = map (λ (r : Bor Rule). r.now) rules

at_rule : (rules : List (Bor Rule)) (i : ℕ) (r : Bor Rule) → i < length rules → r ≡ get_or rules i r → rules_of (drop i rules) ≡ r.now ∷ rules_of (drop (suc i) rules)
at_rule rules i r h here =
    ap rules_of (drop-cons rules i r h) ∙ ap (λ (q : Bor Rule). q.now ∷ rules_of (drop (suc i) rules)) (sym here)

pub unsafe_here : (rules : List (Bor Rule)) (i : ℕ) (r : Bor Rule) (v : Term) → i < length rules → r ≡ get_or rules i r → first_unsafe_from 1 (map (λ (q : Bor Rule). q.now) rules) ≡ first_unsafe_from (i + 1) (map (λ (q : Bor Rule). q.now) (drop i rules)) → first_unsafe r.now ≡ Some v → Some (shown_number (i + 1), shown_variable v) ≡ first_unsafe_from 1 (map (λ (q : Bor Rule). q.now) rules)
unsafe_here rules i r v h here so_far e =
    sym (so_far ∙ (ap (first_unsafe_from (i + 1)) (at_rule rules i r h here) ∙ first_is (i + 1) r.now (rules_of (drop (suc i) rules)) v e))

pub unsafe_later : (rules : List (Bor Rule)) (i : ℕ) (r : Bor Rule) → i < length rules → r ≡ get_or rules i r → first_unsafe_from 1 (map (λ (q : Bor Rule). q.now) rules) ≡ first_unsafe_from (i + 1) (map (λ (q : Bor Rule). q.now) (drop i rules)) → first_unsafe r.now ≡ None → first_unsafe_from 1 (map (λ (q : Bor Rule). q.now) rules) ≡ first_unsafe_from (i + 1 + 1) (map (λ (q : Bor Rule). q.now) (drop (i + 1) rules))
unsafe_later rules i r h here so_far e =
    let next : suc i ≡ i + 1 = omega arith in
    let number : suc (i + 1) ≡ i + 1 + 1 = omega arith in
    so_far ∙ (ap (first_unsafe_from (i + 1)) (at_rule rules i r h here) ∙ (first_isnt (i + 1) r.now (rules_of (drop (suc i) rules)) e
    ∙ (ap (λ n. first_unsafe_from n (rules_of (drop (suc i) rules))) number ∙ ap (λ n. first_unsafe_from (i + 1 + 1) (rules_of (drop n rules))) next)))

-- ---- the first refusal

abbrev by_safety : Program → Option (ℕ × Var) → Option CheckRefusal
by_safety p found = option_or (option_map (λ f. UnsafeRule f.0 f.1) found) (option_or (form_refusal p) (size_refusal p))

abbrev by_form : Program → Option ℕ → Option CheckRefusal
by_form p found = option_or (option_map HeadedRule found) (size_refusal p)

abbrev by_size : Option (Which × ℕ) → Option CheckRefusal
by_size found = option_map (λ f. PastLimit f.0 f.1) found

pub refused_for_form : (p : Program) (n : ℕ) → unsafe_in p ≡ None → headed_in p ≡ Some n → check_refusal p ≡ Some (HeadedRule n)
refused_for_form p n safe headed = ap (by_safety p) safe ∙ ap (by_form p) headed

pub refused_for_size : (p : Program) (w : Which) (n : ℕ) → unsafe_in p ≡ None → headed_in p ≡ None → too_large_in p ≡ Some (w, n) → check_refusal p ≡ Some (PastLimit w n)
refused_for_size p w n safe form large = ap (by_safety p) safe ∙ (ap (by_form p) form ∙ ap by_size large)

pub refused_for_nothing : (p : Program) → unsafe_in p ≡ None → headed_in p ≡ None → too_large_in p ≡ None → check_refusal p ≡ None
refused_for_nothing p safe form large = ap (by_safety p) safe ∙ (ap (by_form p) form ∙ ap by_size large)
