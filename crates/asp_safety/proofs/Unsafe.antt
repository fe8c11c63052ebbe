-- The unsafe variables as the checker finds them.
use Rattle.std.proofs.Common.{ℕ, ◌≡◌, ◌+◌, ◌<◌, refl, sym, ◌∙◌, ap, Bool, true, false, not, cond, suc, List, [], ◌∷◌, ◌++◌, length, get_or, drop, Some, None, arith}
use Rattle.std.specs.List.{flat_map, filter, find}
use Rattle.std.proofs.Math.Seq.{drop-cons}
use Rattle.asp_defs.specs.declared.syntax.Term.{Term}
use Rattle.asp_defs.specs.declared.syntax.Literal.{Literal}
use Rattle.asp_defs.specs.declared.syntax.Rule.{Rule}
use Rattle.asp_defs.specs.Instances.{literal_variables}
use Rattle.asp_defs.specs.Safety.{is_variable_of, safe_variables, unbound, head_unsafe, rule_unsafe}
use Rattle.asp_safety.specs.declared.variable.Variable.{Variable}
use Rattle.asp_safety.specs.Variables.{term_of, terms_of}
use Rattle.asp_safety.specs.Safe.{Agree, AgreeOn}
use Rattle.asp_safety.proofs.Safe.{filter_agrees}

-- what isn't in a set of the safe variables is unbound
pub unbound_is : (S : List Term) (body : List Literal) (vs : List Term) → AgreeOn vs S (safe_variables body) → filter (λ v. not (is_variable_of S v)) vs ≡ unbound body vs
unbound_is S body vs agree =
    filter_agrees (λ v. not (is_variable_of S v)) (λ v. not (is_variable_of (safe_variables body) v)) vs (λ v i. ap not (agree v i))

-- the unsafe variables of a rule: those of its head, and those of its body
pub rule_unsafe_is : (r : Rule) (S vars : List Term) → Agree S (safe_variables r.body) → vars ≡ flat_map literal_variables r.body → head_unsafe r.body r.head ++ filter (λ v. not (is_variable_of S v)) vars ≡ rule_unsafe r
rule_unsafe_is r S vars agree v =
    ap (λ ws. head_unsafe r.body r.head ++ filter (λ v. not (is_variable_of S v)) ws) v
    ∙ ap (λ ws. head_unsafe r.body r.head ++ ws) (unbound_is S r.body (flat_map literal_variables r.body) (λ v i. agree v))

-- no variable is one of none
find_nothing : (vs : List Term) → None ≡ find (is_variable_of []) vs
find_nothing [] = refl
find_nothing (v ∷ vs) = find_nothing vs

pub find_none : (others vs : List Term) → others ≡ [] → None ≡ find (is_variable_of others) vs
find_none others vs e = find_nothing vs ∙ ap (λ ws. find (is_variable_of ws) vs) (sym e)

-- a search that stands before a variable of a list: it ends there, or goes on behind it
at_place : (p : Term → Bool) (xs : List Variable) (i : ℕ) (d : Variable) → i < length xs → find p (terms_of (drop i xs)) ≡ cond (p (term_of (get_or xs i d))) (Some (term_of (get_or xs i d))) (find p (terms_of (drop (suc i) xs)))
at_place p xs i d h = ap (λ ys. find p (terms_of ys)) (drop-cons xs i d h)

pub found_here : (p : Term → Bool) (xs : List Variable) (i : ℕ) (d : Variable) → i < length xs → find p (terms_of xs) ≡ find p (terms_of (drop i xs)) → p (term_of (get_or xs i d)) ≡ true → Some (term_of (get_or xs i d)) ≡ find p (terms_of xs)
found_here p xs i d h so_far passes =
    sym (so_far ∙ (at_place p xs i d h ∙ ap (λ b. cond b (Some (term_of (get_or xs i d))) (find p (terms_of (drop (suc i) xs)))) passes))

pub found_later : (p : Term → Bool) (xs : List Variable) (i : ℕ) (d : Variable) → i < length xs → find p (terms_of xs) ≡ find p (terms_of (drop i xs)) → p (term_of (get_or xs i d)) ≡ false → find p (terms_of xs) ≡ find p (terms_of (drop (i + 1) xs))
found_later p xs i d h so_far fails =
    let next : suc i ≡ i + 1 = omega arith in
    so_far ∙ (at_place p xs i d h ∙ (ap (λ b. cond b (Some (term_of (get_or xs i d))) (find p (terms_of (drop (suc i) xs)))) fails
    ∙ ap (λ n. find p (terms_of (drop n xs))) next))
