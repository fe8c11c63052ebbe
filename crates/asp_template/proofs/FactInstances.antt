-- The instances of a fact: its arguments are constants and intervals.
use Rattle.std.proofs.Common.{ℕ, ℤ, zero, suc, false, ◌≡◌, ◌<◌, refl, sym, ◌∙◌, ap, subst, inl, inr, List, [], ◌∷◌, ◌++◌, map, length, get_or, arith}
use Rattle.std.specs.List.{flat_map}
use Rattle.std.proofs.lemmas.List.{length-map}
use Rattle.asp_defs.specs.declared.ground.Const.{Const}
use Rattle.asp_defs.specs.declared.ground.Const.TheVariants as const
use Rattle.asp_defs.specs.declared.ground.GroundAtom.{GroundAtom}
use Rattle.asp_defs.specs.declared.ground.GroundRule.{GroundRule}
use Rattle.asp_defs.specs.declared.syntax.Term.{Term}
use Rattle.asp_defs.specs.declared.syntax.Term.TheVariants.{Int, Sym, Var, Anon, Range}
use Rattle.asp_defs.specs.declared.syntax.Atom.{Atom}
use Rattle.asp_defs.specs.Lists.{IsIn, numbers_from}
use Rattle.asp_defs.specs.Constants.{interval}
use Rattle.asp_defs.specs.Bases.{Predicate, product, atom_predicate, atom_number}
use Rattle.asp_defs.specs.Instances.{Schema, term_variables, first_occurrences, term_choices, spread, disjunctive_schema, term_value, instance, assignments}
use Rattle.asp_defs.proofs.Lists.{map_at}
use Rattle.asp_atoms.specs.declared.vocabularies.Vocabulary.{Vocabulary}
use Rattle.asp_atoms.specs.Vocabularies.{unnumbered, const_rank}
use Rattle.asp_atoms.proofs.Levels.{length_numbers}
use Rattle.asp_template.proofs.Parts.{with_args, all_instances}
use Rattle.asp_template.specs.declared.template.Slot.{Slot}
use Rattle.asp_template.specs.declared.template.Slot.TheVariants.{Variable}
use Rattle.asp_template.specs.Ranks.{capped, rank_of, first_of}
use Rattle.asp_template.specs.Templates.{slot_rank, number_at, instance_at}
use Rattle.asp_template.specs.Compiled.{argument_ranks, fact_template, fact_instances}
use Rattle.asp_atoms.proofs.Choosing.{flat_map_agrees}
use Rattle.asp_atoms.proofs.Numbering.{map_agrees, map_map}
use Rattle.asp_template.proofs.Products.{flat_map_map, product_map, tuple_length, tuple_member}
use Rattle.asp_template.proofs.Known.{Numbers, make_ground}
use Rattle.asp_template.proofs.Numbers.{const_at, stands, template_number}

-- ---- the argument of a fact, and the terms for which it stands

-- a constant of the vocabulary, or an interval of such
abbrev pub KnownArgument : Vocabulary → Term → Type 0
KnownArgument v (Int x) = IsIn (const.Int x) v.constants
KnownArgument v (Sym s) = IsIn (const.Sym s) v.constants
KnownArgument v (Var w) = ⊥
KnownArgument v (Anon k) = ⊥
KnownArgument v (Range low high) = (c : Const) → IsIn c (map const.Int (interval low high)) → IsIn c v.constants

-- a constant of the vocabulary
abbrev pub KnownConstant : Vocabulary → Term → Type 0
KnownConstant v (Int x) = IsIn (const.Int x) v.constants
KnownConstant v (Sym s) = IsIn (const.Sym s) v.constants
KnownConstant v (Var w) = ⊥
KnownConstant v (Anon k) = ⊥
KnownConstant v (Range low high) = ⊥

pub record KnownFact (v : Vocabulary) (a : Atom) : Type 0 where
  pub predicate : IsIn (atom_predicate a) (map unnumbered v.predicates)
  pub terms : (t : Term) → IsIn t a.args → KnownArgument v t

-- the rank of a term that is a constant
abbrev term_rank : List Const → Term → ℕ
term_rank constants (Int x) = rank_of constants (const.Int x)
term_rank constants (Sym s) = rank_of constants (const.Sym s)
term_rank constants (Var w) = 0
term_rank constants (Anon k) = 0
term_rank constants (Range low high) = 0

ranks_are : (v : Vocabulary) (t : Term) → KnownArgument v t → argument_ranks v.constants t ≡ map (term_rank v.constants) (term_choices t)
ranks_are v (Int x) known = refl
ranks_are v (Sym s) known = refl
ranks_are v (Var w) known = absurd known
ranks_are v (Anon k) known = absurd known
ranks_are v (Range low high) known = sym (map_map (term_rank v.constants) Int (interval low high))

pub choice_known : (v : Vocabulary) (t u : Term) → KnownArgument v t → IsIn u (term_choices t) → KnownConstant v u
choice_known v (Int x) u known (inl e) = subst (λ (w : Term). KnownConstant v w) (sym e) known
choice_known v (Int x) u known (inr i) = absurd i
choice_known v (Sym s) u known (inl e) = subst (λ (w : Term). KnownConstant v w) (sym e) known
choice_known v (Sym s) u known (inr i) = absurd i
choice_known v (Var w) u known i = absurd known
choice_known v (Anon k) u known i = absurd known
choice_known v (Range low high) u known i =
    let found = map_at Int (interval low high) u i in
    subst (λ (w : Term). KnownConstant v w) (sym found.2) (known (const.Int found.0) (there found.0 (interval low high) found.1))
  where
    there : (x : ℤ) (xs : List ℤ) → IsIn x xs → IsIn (const.Int x) (map const.Int xs)
    there x [] j = absurd j
    there x (y ∷ ys) (inl e) = inl (ap const.Int e)
    there x (y ∷ ys) (inr j) = inr (there x ys j)

-- a constant's rank, value and variables
record Plain (v : Vocabulary) (t : Term) : Type 0 where
  below : term_rank v.constants t < length v.constants
  value : const_at v.constants (term_rank v.constants t) ≡ term_value [] [] t
  none : term_variables t ≡ []

plain_constant : (v : Vocabulary) (c : Const) → (atoms : List GroundAtom) → Numbers atoms v → IsIn c v.constants → (rank_of v.constants c < length v.constants) × (const_at v.constants (rank_of v.constants c) ≡ c)
plain_constant v c atoms n i =
    let few = n.few in
    let s = stands v.constants c n.ordered.constants i in
    let inside = s.inside in
    let same : rank_of v.constants c ≡ const_rank v.constants c = omega (arith, inside, few) in
    (subst (λ m. m < length v.constants) (sym same) inside, ap (const_at v.constants) same ∙ s.here)

plain : (atoms : List GroundAtom) (v : Vocabulary) (t : Term) → Numbers atoms v → KnownConstant v t → Plain v t
plain atoms v (Int x) n known =
    let c = plain_constant v (const.Int x) atoms n known in record { below = c.0; value = c.1; none = refl }
plain atoms v (Sym s) n known =
    let c = plain_constant v (const.Sym s) atoms n known in record { below = c.0; value = c.1; none = refl }
plain atoms v (Var w) n known = absurd known
plain atoms v (Anon k) n known = absurd known
plain atoms v (Range low high) n known = absurd known

-- ---- the numbers from 0 on read a list

from_next : (k n : ℕ) → numbers_from (suc k) n ≡ map suc (numbers_from k n)
from_next k zero = refl
from_next k (suc n) = ap (λ ns. suc k ∷ ns) (from_next (suc k) n)

pub reads_itself : (xs : List ℕ) → map (λ i. get_or xs i 0) (numbers_from 0 (length xs)) ≡ xs
reads_itself [] = refl
reads_itself (x ∷ xs) =
    ap (λ ns. x ∷ map (λ i. get_or (x ∷ xs) i 0) ns) (from_next 0 (length xs))
    ∙ (ap (λ ys. x ∷ ys) (map_map (λ i. get_or (x ∷ xs) i 0) suc (numbers_from 0 (length xs)))
    ∙ ap (λ ys. x ∷ ys) (reads_itself xs))

pub slots_read : (ranks : List ℕ) (count : ℕ) → length ranks ≡ count → map (slot_rank ranks) (map Variable (numbers_from 0 count)) ≡ ranks
slots_read ranks count e =
    map_map (slot_rank ranks) Variable (numbers_from 0 count)
    ∙ (ap (λ n. map (λ i. get_or ranks i 0) (numbers_from 0 n)) (sym e) ∙ reads_itself ranks)

-- ---- one fact

abbrev one_rule : ℕ → List GroundRule
one_rule number = record { choice = false; head = number ∷ []; pos = []; neg = [] } ∷ []

abbrev bare_fact : Atom → List Term → List Term → Schema
bare_fact a tuple variables = record { choice = false; heads = with_args a tuple ∷ []; body = []; variables = variables }

-- a fact whose arguments are constants has one instance
single : (atoms : List GroundAtom) (U : List Const) (a : Atom) (tuple : List Term) → flat_map term_variables tuple ≡ [] → all_instances atoms U (disjunctive_schema (with_args a tuple ∷ []) []) ≡ one_rule (atom_number atoms (make_ground a.name (map (term_value [] []) tuple)))
single atoms U a tuple none =
    ap (λ (vs : List Term). all_instances atoms U (bare_fact a tuple (first_occurrences ((vs ++ []) ++ [])))) none

tuple_known : (v : Vocabulary) (args : List Term) (tuple : List Term) → ((t : Term) → IsIn t args → KnownArgument v t) → IsIn tuple (product (map term_choices args)) → (u : Term) → IsIn u tuple → KnownConstant v u
tuple_known v args tuple known i u j =
    let from = tuple_member (map term_choices args) tuple u i j in
    let term = map_at term_choices args from.0 from.1 in
    choice_known v term.0 u (known term.0 term.1) (subst (λ (xs : List Term). IsIn u xs) term.2 from.2)

no_variables : (v : Vocabulary) (atoms : List GroundAtom) (tuple : List Term) → Numbers atoms v → ((u : Term) → IsIn u tuple → KnownConstant v u) → flat_map term_variables tuple ≡ []
no_variables v atoms [] n known = refl
no_variables v atoms (t ∷ tuple) n known =
    ap (λ (vs : List Term). vs ++ flat_map term_variables tuple) (plain atoms v t n (known t (inl refl))).none
    ∙ no_variables v atoms tuple n (λ u i. known u (inr i))

values_are : (v : Vocabulary) (atoms : List GroundAtom) (tuple : List Term) → Numbers atoms v → ((u : Term) → IsIn u tuple → KnownConstant v u) → map (const_at v.constants) (map (term_rank v.constants) tuple) ≡ map (term_value [] []) tuple
values_are v atoms tuple n known =
    map_map (const_at v.constants) (term_rank v.constants) tuple
    ∙ map_agrees (λ t. const_at v.constants (term_rank v.constants t)) (term_value [] []) tuple (λ t i. (plain atoms v t n (known t i)).value)

ranks_below : (v : Vocabulary) (atoms : List GroundAtom) (tuple : List Term) → Numbers atoms v → ((u : Term) → IsIn u tuple → KnownConstant v u) → (rank : ℕ) → IsIn rank (map (term_rank v.constants) tuple) → rank < length v.constants
ranks_below v atoms tuple n known rank i =
    let found = map_at (term_rank v.constants) tuple rank i in
    subst (λ r. r < length v.constants) (sym found.2) (plain atoms v found.0 n (known found.0 found.1)).below

-- the number that the template of a fact gives
fact_number : (atoms : List GroundAtom) (v : Vocabulary) (a : Atom) (ranks : List ℕ) → Numbers atoms v → IsIn (atom_predicate a) (map unnumbered v.predicates) → length ranks ≡ length a.args → ((rank : ℕ) → IsIn rank ranks → rank < length v.constants) → number_at (capped (length v.constants)) ranks (record { first = first_of v.predicates (atom_predicate a); slots = map Variable (numbers_from 0 (length a.args)) }) ≡ atom_number atoms (make_ground a.name (map (const_at v.constants) ranks))
fact_number atoms v a ranks n predicate same below =
    let found = map_at unnumbered v.predicates (atom_predicate a) predicate in
    let name : a.name ≡ found.0.name = ap (λ (p : Predicate). p.name) found.2 in
    let arity : length a.args ≡ found.0.arity = ap (λ (p : Predicate). p.arity) found.2 in
    let slots : List Slot = map Variable (numbers_from 0 (length a.args)) in
    let reads : map (slot_rank ranks) slots ≡ ranks = slots_read ranks (length a.args) same in
    let count : length slots ≡ found.0.arity = length-map (numbers_from 0 (length a.args)) Variable ∙ (length_numbers 0 (length a.args) ∙ arity) in
    ap (λ (p : Predicate). number_at (capped (length v.constants)) ranks (record { first = first_of v.predicates p; slots = slots })) found.2
    ∙ (template_number atoms v found.0 ranks slots n found.1 count (λ rank i. below rank (subst (λ (rs : List ℕ). IsIn rank rs) reads i))
    ∙ (ap (λ rs. atom_number atoms (make_ground found.0.name (map (const_at v.constants) rs))) reads
    ∙ ap (λ m. atom_number atoms (make_ground m (map (const_at v.constants) ranks))) (sym name)))

one_fact : (atoms : List GroundAtom) (U : List Const) (v : Vocabulary) (a : Atom) (tuple : List Term) → Numbers atoms v → KnownFact v a → IsIn tuple (product (map term_choices a.args)) → all_instances atoms U (disjunctive_schema (with_args a tuple ∷ []) []) ≡ instance_at (capped (length v.constants)) (fact_template v a) (map (term_rank v.constants) tuple)
one_fact atoms U v a tuple n known i =
    let constants = tuple_known v a.args tuple known.terms i in
    let long : length (map (term_rank v.constants) tuple) ≡ length a.args =
    length-map tuple (term_rank v.constants) ∙ (tuple_length (map term_choices a.args) tuple i ∙ length-map a.args term_choices) in
    single atoms U a tuple (no_variables v atoms tuple n constants)
    ∙ (ap (λ args. one_rule (atom_number atoms (make_ground a.name args))) (sym (values_are v atoms tuple n constants))
    ∙ ap one_rule (sym (fact_number atoms v a (map (term_rank v.constants) tuple) n known.predicate long (ranks_below v atoms tuple n constants))))

-- ---- all facts

domains_are : (v : Vocabulary) (args : List Term) → ((t : Term) → IsIn t args → KnownArgument v t) → map (argument_ranks v.constants) args ≡ map (map (term_rank v.constants)) (map term_choices args)
domains_are v args known =
    map_agrees (argument_ranks v.constants) (λ t. map (term_rank v.constants) (term_choices t)) args (λ t i. ranks_are v t (known t i))
    ∙ sym (map_map (map (term_rank v.constants)) term_choices args)

pub fact_is : (atoms : List GroundAtom) (U : List Const) (v : Vocabulary) (a : Atom) → Numbers atoms v → KnownFact v a → flat_map (λ s. flat_map (instance atoms s) (assignments U s)) (map (λ b. disjunctive_schema (b ∷ []) []) (spread a)) ≡ fact_instances v a
fact_is atoms U v a n known =
    flat_map_map (all_instances atoms U) (λ b. disjunctive_schema (b ∷ []) []) (spread a)
    ∙ (flat_map_map (λ b. all_instances atoms U (disjunctive_schema (b ∷ []) [])) (with_args a) (product (map term_choices a.args))
    ∙ (flat_map_agrees (λ tuple. all_instances atoms U (disjunctive_schema (with_args a tuple ∷ []) [])) (λ tuple. instance_at (capped (length v.constants)) (fact_template v a) (map (term_rank v.constants) tuple)) (product (map term_choices a.args)) (λ tuple i. one_fact atoms U v a tuple n known i)
    ∙ (sym (flat_map_map (instance_at (capped (length v.constants)) (fact_template v a)) (map (term_rank v.constants)) (product (map term_choices a.args)))
    ∙ (ap (flat_map (instance_at (capped (length v.constants)) (fact_template v a))) (sym (product_map (term_rank v.constants) (map term_choices a.args)))
    ∙ ap (λ domains. flat_map (instance_at (capped (length v.constants)) (fact_template v a)) (product domains)) (sym (domains_are v a.args known.terms))))))
