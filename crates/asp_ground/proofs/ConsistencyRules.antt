-- The consistency constraints of a level: what is written in them, and their form.
use Rattle.std.proofs.Common.{ℕ, zero, suc, ◌≡◌, ◌≤◌, ◌⊎◌, ◌&&◌, arith, refl, sym, ◌∙◌, ap, subst, inl, inr, true, List, [], ◌∷◌, ◌++◌, map, length}
use Rattle.std.specs.List.{flat_map, list_all}
use Rattle.std.specs.Ordering.{is_eq}
use Rattle.std.specs.declared.cmp.Ordering.{Ordering}
use Rattle.std.specs.declared.cmp.Ordering.TheVariants.{Less, Equal, Greater}
use Rattle.std.proofs.lemmas.Bool.{eq-eqb}
use Rattle.std.proofs.lemmas.List.{length-map}
use Rattle.asp_defs.specs.declared.ground.Const.{Const}
use Rattle.asp_defs.specs.declared.syntax.Term.{Term}
use Rattle.asp_defs.specs.declared.syntax.Term.TheVariants.{Anon}
use Rattle.asp_defs.specs.declared.syntax.Rule.{Rule}
use Rattle.asp_defs.specs.declared.syntax.Program.{Program}
use Rattle.asp_defs.specs.Lists.{IsIn, numbers_from}
use Rattle.asp_defs.specs.Constants.{universe, term_constants, rule_constants}
use Rattle.asp_defs.specs.Bases.{Predicate, predicate_cmp, predicates, rule_predicates}
use Rattle.asp_defs.specs.Consistency.{negated_name, negated, has_predicate, contradicted, consistency_constraint, consistency_constraints}
use Rattle.asp_defs.specs.ConstraintPart.{is_constraint}
use Rattle.asp_defs.specs.Instances.{same_variable, term_variables}
use Rattle.asp_defs.specs.Safety.{rule_variables}
use Rattle.asp_defs.specs.Limits.{variable_count}
use Rattle.asp_defs.proofs.Lists.{and_true, any_at, filter_at, append_at, map_at}
use Rattle.asp_safety.proofs.Occurrences.{occurrences_few}
use Rattle.asp_template.proofs.Occurrences.{few_among}
use Rattle.asp_defs.proofs.TextRefutations.{clash}
use Rattle.asp_checked.specs.Condition.{is_single, is_single_literal, has_intervals_in_facts}
use Rattle.asp_atoms.proofs.Orders.{predicate_exact}
use Rattle.asp_template.proofs.Parts.{make_predicate}
use Rattle.asp_ground.proofs.RuleSchemas.{Written}

-- ---- predicates that a list has

equal_order : (o : Ordering) → is_eq o ≡ true → o ≡ Equal
equal_order Less h = clash h
equal_order Equal h = refl
equal_order Greater h = clash h

pub has_at : (qs : List Predicate) (q : Predicate) → has_predicate qs q ≡ true → IsIn q qs
has_at qs q h =
    let found = any_at (λ r. is_eq (predicate_cmp q r)) qs h in
    let same : q ≡ found.0 = predicate_exact q found.0 (equal_order (predicate_cmp q found.0) found.2) in
    subst (λ r. IsIn r qs) (sym same) found.1

-- ---- nameless variables

long_numbers : (first count : ℕ) → length (numbers_from first count) ≡ count
long_numbers first zero = refl
long_numbers first (suc count) = ap suc (long_numbers (suc first) count)

pub long_variables : (count : ℕ) → length (map Anon (numbers_from 1 count)) ≡ count
long_variables count = length-map (numbers_from 1 count) Anon ∙ long_numbers 1 count

pub no_constants : (ks : List ℕ) → flat_map term_constants (map Anon ks) ≡ []
no_constants [] = refl
no_constants (k ∷ ks) = no_constants ks

all_single : (ks : List ℕ) → list_all is_single (map Anon ks) ≡ true
all_single [] = refl
all_single (k ∷ ks) = all_single ks

-- ---- the constraint of a predicate

-- the predicates that it is of
pub constrains : (q r : Predicate) → IsIn r (rule_predicates (consistency_constraint q)) → (r ≡ q) ⊎ (r ≡ negated q)
constrains q r (inl e) = inl (e ∙ ap (make_predicate q.name) (long_variables q.arity))
constrains q r (inr (inl e)) = inr (e ∙ ap (make_predicate (negated_name q.name)) (long_variables q.arity))
constrains q r (inr (inr i)) = absurd i

pub no_constant : (q : Predicate) → rule_constants (consistency_constraint q) ≡ []
no_constant q =
    ap (λ (cs : List Const). cs ++ (cs ++ [])) (no_constants (numbers_from 1 q.arity))

pub body_single : (q : Predicate) → list_all is_single_literal (consistency_constraint q).body ≡ true
body_single q =
    let single = all_single (numbers_from 1 q.arity) in
    and_true (list_all is_single (map Anon (numbers_from 1 q.arity))) (list_all is_single (map Anon (numbers_from 1 q.arity)) && true) single
    (and_true (list_all is_single (map Anon (numbers_from 1 q.arity))) true single refl)

-- it has a variable for each argument
variables_are : (ks : List ℕ) → flat_map term_variables (map Anon ks) ≡ map Anon ks
variables_are [] = refl
variables_are (k ∷ ks) = ap (λ (ts : List Term). Anon k ∷ ts) (variables_are ks)

variable_at : (q : Predicate) (w : Term) → IsIn w (rule_variables (consistency_constraint q)) → IsIn w (map Anon (numbers_from 1 q.arity))
variable_at q w i =
    let ks = numbers_from 1 q.arity in
    let vs = flat_map term_variables (map Anon ks) in
    subst (λ (ts : List Term). IsIn w ts) (variables_are ks)
    (elim (append_at vs (vs ++ []) w i) [
      | inl j ↦ j
      | inr j ↦ elim (append_at vs [] w j) [ inl k ↦ k | inr k ↦ absurd k ]
    ])

variable_self : (q : Predicate) (w : Term) → IsIn w (rule_variables (consistency_constraint q)) → same_variable w w ≡ true
variable_self q w i =
    let k = map_at Anon (numbers_from 1 q.arity) w (variable_at q w i) in
    subst (λ (t : Term). same_variable t t ≡ true) (sym k.2) (eq-eqb k.0 k.0 refl)

pub few_variables : (q : Predicate) → variable_count (consistency_constraint q) ≤ q.arity
few_variables q =
    let anons = map Anon (numbers_from 1 q.arity) in
    let fewer = few_among (rule_variables (consistency_constraint q)) anons (variable_self q) (variable_at q) in
    let once = occurrences_few anons in
    let long = long_variables q.arity in
    omega (arith, fewer, once, long)

-- ---- the constraints of a level

pub record Comes (p : Program) (i : ℕ) (r : Rule) : Type 0 where
  pub of : Predicate
  pub is : r ≡ consistency_constraint of
  pub here : IsIn of (predicates p i)
  pub negation : IsIn (negated of) (predicates p i)

pub comes : (p : Program) (i : ℕ) (r : Rule) → IsIn r (consistency_constraints p i) → Comes p i r
comes p i r j =
    let q = map_at consistency_constraint (contradicted (predicates p i)) r j in
    let both = filter_at (λ q. has_predicate (predicates p i) (negated q)) (predicates p i) q.0 q.1 in
    record { of = q.0; is = q.2; here = both.0; negation = has_at (predicates p i) (negated q.0) both.1 }

pub consistency_written : (p : Program) (i : ℕ) (r : Rule) → IsIn r (consistency_constraints p i) → Written (universe p i) (predicates p i) (rule_constants r) (rule_predicates r)
consistency_written p i r j =
    let c = comes p i r j in
    subst (λ s. Written (universe p i) (predicates p i) (rule_constants s) (rule_predicates s)) (sym c.is)
    (record {
      constants = λ x k. absurd (subst (λ (cs : List Const). IsIn x cs) (no_constant c.of) k);
      predicates = λ q k. elim (constrains c.of q k) [
        | inl e ↦ subst (λ s. IsIn s (predicates p i)) (sym e) c.here
        | inr e ↦ subst (λ s. IsIn s (predicates p i)) (sym e) c.negation
      ];
    })

pub consistency_single : (p : Program) (i : ℕ) (r : Rule) → IsIn r (consistency_constraints p i) → has_intervals_in_facts r ≡ true
consistency_single p i r j = let c = comes p i r j in ap has_intervals_in_facts c.is ∙ body_single c.of

pub consistency_constrains : (p : Program) (i : ℕ) (r : Rule) → IsIn r (consistency_constraints p i) → is_constraint r ≡ true
consistency_constrains p i r j = ap is_constraint (comes p i r j).is
