-- The instances of a rule are those of its templates.
use Rattle.std.proofs.Common.{ℕ, suc, ◌≡◌, ◌<◌, ◌≤◌, refl, sym, ◌∙◌, ap, subst, inl, inr, Bool, true, false, ◌&&◌, cond, Some, None, List, [], ◌∷◌, ◌++◌, append-nil, map, length, arith}
use Rattle.std.specs.Prelude.{ℤ, Option, if◌then◌else◌, ◌==◌}
use Rattle.std.specs.List.{flat_map, find, list_all}
use Rattle.std.proofs.lemmas.Bool.{ne_eqb}
use Rattle.asp_defs.specs.declared.ground.Const.{Const}
use Rattle.asp_defs.specs.declared.ground.Const.TheVariants as const
use Rattle.asp_defs.specs.declared.ground.GroundAtom.{GroundAtom}
use Rattle.asp_defs.specs.declared.ground.GroundRule.{GroundRule}
use Rattle.asp_defs.specs.declared.syntax.Term.{Term}
use Rattle.asp_defs.specs.declared.syntax.Term.TheVariants.{Int, Sym, Var, Anon, Range}
use Rattle.asp_defs.specs.declared.syntax.Atom.{Atom}
use Rattle.asp_defs.specs.declared.syntax.Literal.{Literal}
use Rattle.asp_defs.specs.declared.syntax.Literal.TheVariants.{Pos, Neg, Cmp}
use Rattle.asp_defs.specs.declared.syntax.Element.{Element}
use Rattle.asp_defs.specs.declared.syntax.Head.{Head}
use Rattle.asp_defs.specs.declared.syntax.Head.TheVariants.{Disj, Choice}
use Rattle.asp_defs.specs.declared.syntax.Rule.{Rule}
use Rattle.asp_defs.specs.Lists.{IsIn}
use Rattle.asp_defs.specs.Constants.{term_constants, atom_constants, literal_constants, element_constants, head_constants}
use Rattle.asp_defs.specs.Bases.{Predicate, atom_predicate, literal_predicates, element_predicates, head_predicates}
use Rattle.asp_defs.specs.Instances.{Schema, same_variable, term_variables, atom_variables, literal_variables, first_occurrences, disjunctive_schema, element_schema, head_schemas, body_variables, rule_instances}
use Rattle.asp_defs.specs.BoundInstances.{bound_variables}
use Rattle.asp_defs.specs.Safety.{is_variable_of, element_variables, rule_variables, unbound, first_unsafe}
use Rattle.asp_defs.specs.Limits.{variable_count}
use Rattle.asp_defs.proofs.Lists.{both, all_at, append_at, append_left, append_right, map_from, or_left}
use Rattle.asp_checked.specs.Condition.{is_single, is_single_atom, is_single_literal, is_single_element, is_single_head, has_intervals_in_facts}
use Rattle.asp_walk.proofs.Lists.{flat_at, flat_from}
use Rattle.asp_defs.proofs.SafetyLaws.{itself as same_self}
use Rattle.asp_atoms.specs.declared.vocabularies.Vocabulary.{Vocabulary}
use Rattle.asp_atoms.specs.Vocabularies.{unnumbered}
use Rattle.asp_template.proofs.Parts.{make_rule, disjunctive_written, element_written, all_instances, suc_is_not, more_is_not}
use Rattle.asp_template.specs.Variables as found
use Rattle.asp_template.specs.Variables.{disjunctive_variables, found_disjunctive, found_element, found_variables}
use Rattle.asp_template.specs.Compiled.{schema_instances, fact_instances, disjunctive_instances, compiled_instances}
use Rattle.asp_atoms.proofs.Choosing.{flat_map_agrees}
use Rattle.asp_template.proofs.Products.{flat_map_map}
use Rattle.asp_template.proofs.Known.{Numbers, KnownTerm, KnownAtom, KnownLiteral, KnownSchema}
use Rattle.asp_template.proofs.Numbers.{const_at}
use Rattle.asp_template.proofs.Schemas.{schema_is}
use Rattle.asp_template.proofs.Occurrences.{occurs, any_place, few_among, found_is}
use Rattle.asp_template.proofs.FactInstances.{KnownArgument, KnownFact, fact_is}
use Rattle.asp_defs.proofs.TextRefutations.{clash}

-- ---- what is known of terms, atoms and literals

-- their constants stand in the vocabulary, and their variables in a list
pub record Among (v : Vocabulary) (ws : List Term) (constants : List Const) (variables : List Term) : Type 0 where
  pub known : (c : Const) → IsIn c constants → IsIn c v.constants
  pub within : (w : Term) → IsIn w variables → IsIn w ws

known_term : (v : Vocabulary) (ws : List Term) (t : Term) → Among v ws (term_constants t) (term_variables t) → is_single t ≡ true → KnownTerm v (first_occurrences ws) t
known_term v ws (Int x) among single = among.known (const.Int x) (inl refl)
known_term v ws (Sym s) among single = among.known (const.Sym s) (inl refl)
known_term v ws (Var w) among single =
    any_place (same_variable (Var w)) (first_occurrences ws) (occurs ws (Var w) (same_self (Var w) (Var w) (inl refl)) (among.within (Var w) (inl refl)))
known_term v ws (Anon k) among single =
    any_place (same_variable (Anon k)) (first_occurrences ws) (occurs ws (Anon k) (same_self (Anon k) (Anon k) (inl refl)) (among.within (Anon k) (inl refl)))
known_term v ws (Range low high) among single = clash single

pub known_atom : (v : Vocabulary) (ws : List Term) (a : Atom) → Among v ws (atom_constants a) (atom_variables a) → IsIn (atom_predicate a) (map unnumbered v.predicates) → is_single_atom a ≡ true → KnownAtom v (first_occurrences ws) a
known_atom v ws a among predicate single = record {
  predicate = predicate;
  terms = λ t i. known_term v ws t (record {
    known = λ c j. among.known c (flat_from term_constants a.args t c i j);
    within = λ w j. among.within w (flat_from term_variables a.args t w i j);
  }) (all_at is_single a.args t single i);
}

known_literal : (v : Vocabulary) (ws : List Term) (l : Literal) → Among v ws (literal_constants l) (literal_variables l) → ((q : Predicate) → IsIn q (literal_predicates l) → IsIn q (map unnumbered v.predicates)) → is_single_literal l ≡ true → KnownLiteral v (first_occurrences ws) l
known_literal v ws (Pos a) among predicates single = known_atom v ws a among (predicates (atom_predicate a) (inl refl)) single
known_literal v ws (Neg a) among predicates single = known_atom v ws a among (predicates (atom_predicate a) (inl refl)) single
known_literal v ws (Cmp x op y) among predicates single =
    let sides = both (is_single x) (is_single y) single in (
      known_term v ws x (record {
        known = λ c i. among.known c (append_left (term_constants x) (term_constants y) c i);
        within = λ w i. among.within w (append_left (term_variables x) (term_variables y) w i);
      }) sides.0,
      known_term v ws y (record {
        known = λ c i. among.known c (append_right (term_constants x) (term_constants y) c i);
        within = λ w i. among.within w (append_right (term_variables x) (term_variables y) w i);
      }) sides.1,
    )

-- ---- what is known of a rule

pub record KnownParts (v : Vocabulary) (head : Head) (body : List Literal) : Type 0 where
  pub constants : (c : Const) → IsIn c (head_constants head ++ flat_map literal_constants body) → IsIn c v.constants
  pub predicates : (q : Predicate) → IsIn q (head_predicates head ++ flat_map literal_predicates body) → IsIn q (map unnumbered v.predicates)
  pub single : (is_single_head head ≡ true) × (list_all is_single_literal body ≡ true)

pub disjunctive_known : (v : Vocabulary) (atoms : List Atom) (body : List Literal) → KnownParts v (Disj atoms) body → KnownSchema v (disjunctive_schema atoms body)
disjunctive_known v atoms body known = record {
  heads = λ a i. known_atom v (disjunctive_written atoms body) a (record {
    known = λ c j. known.constants c (append_left (flat_map atom_constants atoms) (flat_map literal_constants body) c (flat_from atom_constants atoms a c i j));
    within = λ w j. append_left (flat_map atom_variables atoms) (flat_map literal_variables body) w (flat_from atom_variables atoms a w i j);
  }) (known.predicates (atom_predicate a) (append_left (map atom_predicate atoms) (flat_map literal_predicates body) (atom_predicate a) (map_from atom_predicate atoms a i)))
      (all_at is_single_atom atoms a known.single.0 i);
  body = λ l i. known_literal v (disjunctive_written atoms body) l (record {
    known = λ c j. known.constants c (append_right (flat_map atom_constants atoms) (flat_map literal_constants body) c (flat_from literal_constants body l c i j));
    within = λ w j. append_right (flat_map atom_variables atoms) (flat_map literal_variables body) w (flat_from literal_variables body l w i j);
  }) (λ q j. known.predicates q (append_right (map atom_predicate atoms) (flat_map literal_predicates body) q (flat_from literal_predicates body l q i j)))
      (all_at is_single_literal body l known.single.1 i);
}

-- what is known of the literals of a body, beside an element
pub record KnownBody (v : Vocabulary) (ws : List Term) (body : List Literal) : Type 0 where
  pub constants : (c : Const) → IsIn c (flat_map literal_constants body) → IsIn c v.constants
  pub predicates : (q : Predicate) → IsIn q (flat_map literal_predicates body) → IsIn q (map unnumbered v.predicates)
  pub variables : (w : Term) → IsIn w (flat_map literal_variables body) → IsIn w ws
  pub single : list_all is_single_literal body ≡ true

pub known_body : (v : Vocabulary) (ws : List Term) (body : List Literal) → KnownBody v ws body → (l : Literal) → IsIn l body → KnownLiteral v (first_occurrences ws) l
known_body v ws body known l i = known_literal v ws l (record {
  known = λ c j. known.constants c (flat_from literal_constants body l c i j);
  within = λ w j. known.variables w (flat_from literal_variables body l w i j);
}) (λ q j. known.predicates q (flat_from literal_predicates body l q i j)) (all_at is_single_literal body l known.single i)

element_known : (v : Vocabulary) (low : Option ℤ) (elements : List Element) (high : Option ℤ) (body : List Literal) (e : Element) → IsIn e elements → KnownParts v (Choice low elements high) body → KnownSchema v (element_schema body e)
element_known v low elements high body e i known =
    let parts : (is_single_atom e.atom ≡ true) × (list_all is_single_literal e.cond ≡ true) =
    both (is_single_atom e.atom) (list_all is_single_literal e.cond) (all_at is_single_element elements e known.single.0 i) in
    record {
      heads = λ a j. elim j [ inl same ↦ subst (λ (b : Atom). KnownAtom v (first_occurrences (element_written body e)) b) (sym same) (of_atom parts.0) | inr none ↦ absurd none ];
      body = λ l j. elim (append_at body e.cond l j) [ inl k ↦ known_body v (element_written body e) body of_body l k | inr k ↦ known_body v (element_written body e) e.cond (of_cond parts.1) l k ];
    }
  where
    -- where the element's constants and predicates stand in the rule
    in_constants : (c : Const) → IsIn c (element_constants e) → IsIn c v.constants
    in_constants c j = known.constants c (append_left (flat_map element_constants elements) (flat_map literal_constants body) c (flat_from element_constants elements e c i j))

    in_predicates : (q : Predicate) → IsIn q (element_predicates e) → IsIn q (map unnumbered v.predicates)
    in_predicates q j = known.predicates q (append_left (flat_map element_predicates elements) (flat_map literal_predicates body) q (flat_from element_predicates elements e q i j))

    of_atom : is_single_atom e.atom ≡ true → KnownAtom v (first_occurrences (element_written body e)) e.atom
    of_atom single = known_atom v (element_written body e) e.atom (record {
      known = λ c j. in_constants c (append_left (atom_constants e.atom) (flat_map literal_constants e.cond) c j);
      within = λ w j. append_left (atom_variables e.atom) (flat_map literal_variables e.cond ++ flat_map literal_variables body) w j;
    }) (in_predicates (atom_predicate e.atom) (inl refl)) single

    of_cond : list_all is_single_literal e.cond ≡ true → KnownBody v (element_written body e) e.cond
    of_cond single = record {
      constants = λ c j. in_constants c (append_right (atom_constants e.atom) (flat_map literal_constants e.cond) c j);
      predicates = λ q j. in_predicates q (inr j);
      variables = λ w j. append_right (atom_variables e.atom) (flat_map literal_variables e.cond ++ flat_map literal_variables body) w (append_left (flat_map literal_variables e.cond) (flat_map literal_variables body) w j);
      single = single;
    }

    of_body : KnownBody v (element_written body e) body
    of_body = record {
      constants = λ c j. known.constants c (append_right (flat_map element_constants elements) (flat_map literal_constants body) c j);
      predicates = λ q j. known.predicates q (append_right (flat_map element_predicates elements) (flat_map literal_predicates body) q j);
      variables = λ w j. append_right (atom_variables e.atom) (flat_map literal_variables e.cond ++ flat_map literal_variables body) w (append_right (flat_map literal_variables e.cond) (flat_map literal_variables body) w j);
      single = known.single.1;
    }

-- ---- rules

-- the universe of a level, by ranks
pub record Ranked (v : Vocabulary) (U : List Const) (ranks : List ℕ) : Type 0 where
  pub same : U ≡ map (const_at v.constants) ranks
  pub below : (rank : ℕ) → IsIn rank ranks → rank < length v.constants

-- which of the two a disjunction gives
abbrev either : Vocabulary → List ℕ → List Atom → List Literal → Atom → Bool → List GroundRule
either v ranks heads body a is_one = if is_one then fact_instances v a else schema_instances v ranks (found_disjunctive heads body)

-- what is known of a rule of a checked program
pub record KnownRule (v : Vocabulary) (head : Head) (body : List Literal) : Type 0 where
  pub constants : (c : Const) → IsIn c (head_constants head ++ flat_map literal_constants body) → IsIn c v.constants
  pub predicates : (q : Predicate) → IsIn q (head_predicates head ++ flat_map literal_predicates body) → IsIn q (map unnumbered v.predicates)
  pub intervals : has_intervals_in_facts (make_rule head body) ≡ true
  pub safe : first_unsafe (make_rule head body) ≡ None
  pub few : variable_count (make_rule head body) ≤ 16

pub parts_of : (v : Vocabulary) (head : Head) (body : List Literal) → KnownRule v head body → is_single_head head && list_all is_single_literal body ≡ true → KnownParts v head body
parts_of v head body known single = record {
  constants = known.constants;
  predicates = known.predicates;
  single = both (is_single_head head) (list_all is_single_literal body) single;
}

-- ---- a safe fact has no variables

find_first : (test : Term → Bool) (w : Term) (ws : List Term) → test w ≡ true → find test (w ∷ ws) ≡ None → ⊥
find_first test w ws e h =
    let first : Some w ≡ find test (w ∷ ws) = ap (λ b. cond b (Some w) (find test ws)) (sym e) in absurd (cc (first, h))

no_unsafe : (vs : List Term) → ((w : Term) → IsIn w vs → same_variable w w ≡ true) → find (is_variable_of (unbound [] vs ++ [])) vs ≡ None → vs ≡ []
no_unsafe [] self h = refl
no_unsafe (w ∷ ws) self h =
    absurd (find_first (is_variable_of (unbound [] (w ∷ ws) ++ [])) w ws (or_left (same_variable w w) (is_variable_of (unbound [] ws ++ []) w) (self w (inl refl))) h)

written_self : (args : List Term) (w : Term) → IsIn w (flat_map term_variables args) → same_variable w w ≡ true
written_self args w i = let found = flat_at term_variables args w i in same_self found.0 w found.2

fact_closed : (v : Vocabulary) (a : Atom) → KnownRule v (Disj (a ∷ [])) [] → atom_variables a ≡ []
fact_closed v a known =
    let bare : (atom_variables a ++ []) ++ [] ≡ atom_variables a = append-nil (atom_variables a ++ []) ∙ append-nil (atom_variables a) in
    let once : atom_variables a ++ [] ≡ atom_variables a = append-nil (atom_variables a) in
    let none : find (is_variable_of (unbound [] (atom_variables a) ++ [])) (atom_variables a) ≡ None =
    subst (λ (vs : List Term). find (is_variable_of (unbound [] (atom_variables a) ++ [])) vs ≡ None) bare
    (subst (λ (vs : List Term). find (is_variable_of (unbound [] vs ++ [])) ((atom_variables a ++ []) ++ []) ≡ None) once known.safe) in
    no_unsafe (atom_variables a) (written_self a.args) none

known_argument : (v : Vocabulary) (t : Term) → ((c : Const) → IsIn c (term_constants t) → IsIn c v.constants) → ((w : Term) → IsIn w (term_variables t) → ⊥) → KnownArgument v t
known_argument v (Int x) constants none = constants (const.Int x) (inl refl)
known_argument v (Sym s) constants none = constants (const.Sym s) (inl refl)
known_argument v (Var w) constants none = none (Var w) (inl refl)
known_argument v (Anon k) constants none = none (Anon k) (inl refl)
known_argument v (Range low high) constants none = constants

pub known_fact : (v : Vocabulary) (a : Atom) → KnownRule v (Disj (a ∷ [])) [] → KnownFact v a
known_fact v a known =
    let closed = fact_closed v a known in
    record {
      predicate = known.predicates (atom_predicate a) (inl refl);
      terms = λ t i. known_argument v t
          (λ c j. known.constants c (append_left (atom_constants a ++ []) [] c (append_left (atom_constants a) [] c (flat_from term_constants a.args t c i j))))
          (λ w j. subst (λ (vs : List Term). IsIn w vs) closed (flat_from term_variables a.args t w i j));
    }

-- ---- schemas with the variables that are found

pub written_by : {A : Type 0} (f : A → List Term) (xs : List A) → ((x : A) (w : Term) → IsIn w (f x) → same_variable w w ≡ true) → (w : Term) → IsIn w (flat_map f xs) → same_variable w w ≡ true
written_by f xs h w i = let found = flat_at f xs w i in h found.0 w found.2

atom_self : (a : Atom) (w : Term) → IsIn w (atom_variables a) → same_variable w w ≡ true
atom_self a w i = written_self a.args w i

pub literal_self : (l : Literal) (w : Term) → IsIn w (literal_variables l) → same_variable w w ≡ true
literal_self (Pos a) w i = atom_self a w i
literal_self (Neg a) w i = atom_self a w i
literal_self (Cmp x op y) w i = elim (append_at (term_variables x) (term_variables y) w i) [
  | inl j ↦ same_self x w j
  | inr j ↦ same_self y w j
]

disjunctive_self : (heads : List Atom) (body : List Literal) (w : Term) → IsIn w (disjunctive_written heads body) → same_variable w w ≡ true
disjunctive_self heads body w i = elim (append_at (flat_map atom_variables heads) (flat_map literal_variables body) w i) [
  | inl j ↦ written_by atom_variables heads atom_self w j
  | inr j ↦ written_by literal_variables body literal_self w j
]

element_self : (body : List Literal) (e : Element) (w : Term) → IsIn w (element_written body e) → same_variable w w ≡ true
element_self body e w i = elim (append_at (atom_variables e.atom) (flat_map literal_variables e.cond ++ flat_map literal_variables body) w i) [
  | inl j ↦ atom_self e.atom w j
  | inr j ↦ elim (append_at (flat_map literal_variables e.cond) (flat_map literal_variables body) w j) [
    | inl k ↦ written_by literal_variables e.cond literal_self w k
    | inr k ↦ written_by literal_variables body literal_self w k
  ]
]

pub disjunctive_found : (heads : List Atom) (body : List Literal) → variable_count (make_rule (Disj heads) body) ≤ 16 → disjunctive_variables heads body ≡ first_occurrences (disjunctive_written heads body)
disjunctive_found heads body few = found_is (disjunctive_written heads body) (disjunctive_self heads body) few

-- where an element's variables stand in the rule
in_rule : (low : Option ℤ) (elements : List Element) (high : Option ℤ) (body : List Literal) (e : Element) (w : Term) → IsIn e elements → IsIn w (element_written body e) → IsIn w (rule_variables (make_rule (Choice low elements high) body))
in_rule low elements high body e w i j = elim (append_at (atom_variables e.atom) (flat_map literal_variables e.cond ++ flat_map literal_variables body) w j) [
  | inl k ↦ front (append_left (atom_variables e.atom) (flat_map literal_variables e.cond) w k)
  | inr k ↦ elim (append_at (flat_map literal_variables e.cond) (flat_map literal_variables body) w k) [
    | inl m ↦ front (append_right (atom_variables e.atom) (flat_map literal_variables e.cond) w m)
    | inr m ↦ append_right (flat_map element_variables elements) (flat_map literal_variables body) w m
  ]
]
  where
    front : IsIn w (element_variables e) → IsIn w (flat_map element_variables elements ++ flat_map literal_variables body)
    front m = append_left (flat_map element_variables elements) (flat_map literal_variables body) w (flat_from element_variables elements e w i m)

pub element_found : (low : Option ℤ) (elements : List Element) (high : Option ℤ) (body : List Literal) (e : Element) → IsIn e elements → variable_count (make_rule (Choice low elements high) body) ≤ 16 → found.element_variables body e ≡ first_occurrences (element_written body e)
element_found low elements high body e i few =
    let fewer = few_among (element_written body e) (rule_variables (make_rule (Choice low elements high) body)) (element_self body e) (λ w j. in_rule low elements high body e w i j) in
    found_is (element_written body e) (element_self body e) (omega (arith, few, fewer))

-- the variables of a body that are found, and those of a body and an element
in_body : (low : Option ℤ) (elements : List Element) (high : Option ℤ) (body : List Literal) (w : Term) → IsIn w (flat_map literal_variables body) → IsIn w (rule_variables (make_rule (Choice low elements high) body))
in_body low elements high body w j = append_right (flat_map element_variables elements) (flat_map literal_variables body) w j

pub body_found : (low : Option ℤ) (elements : List Element) (high : Option ℤ) (body : List Literal) → variable_count (make_rule (Choice low elements high) body) ≤ 16 → disjunctive_variables [] body ≡ body_variables body
body_found low elements high body few =
    let self : (w : Term) → IsIn w (flat_map literal_variables body) → same_variable w w ≡ true = λ w i. written_by literal_variables body literal_self w i in
    let fewer = few_among (flat_map literal_variables body) (rule_variables (make_rule (Choice low elements high) body)) self (in_body low elements high body) in
    found_is (flat_map literal_variables body) self (omega (arith, few, fewer))

abbrev pub bound_written : List Literal → Element → List Term
bound_written body e = flat_map literal_variables body ++ (atom_variables e.atom ++ flat_map literal_variables e.cond)

bound_self : (body : List Literal) (e : Element) (w : Term) → IsIn w (bound_written body e) → same_variable w w ≡ true
bound_self body e w i = elim (append_at (flat_map literal_variables body) (atom_variables e.atom ++ flat_map literal_variables e.cond) w i) [
  | inl j ↦ written_by literal_variables body literal_self w j
  | inr j ↦ elim (append_at (atom_variables e.atom) (flat_map literal_variables e.cond) w j) [
    | inl k ↦ atom_self e.atom w k
    | inr k ↦ written_by literal_variables e.cond literal_self w k
  ]
]

pub bound_found : (low : Option ℤ) (elements : List Element) (high : Option ℤ) (body : List Literal) (e : Element) → IsIn e elements → variable_count (make_rule (Choice low elements high) body) ≤ 16 → found_variables body e ≡ bound_variables body e
bound_found low elements high body e i few =
    let fewer = few_among (bound_written body e) (rule_variables (make_rule (Choice low elements high) body)) (bound_self body e) (λ w j.
    elim (append_at (flat_map literal_variables body) (atom_variables e.atom ++ flat_map literal_variables e.cond) w j) [
      | inl k ↦ in_body low elements high body w k
      | inr k ↦ append_left (flat_map element_variables elements) (flat_map literal_variables body) w (flat_from element_variables elements e w i k)
    ]) in
    found_is (bound_written body e) (bound_self body e) (omega (arith, few, fewer))

-- a schema with its variables in another form
abbrev disjunctive_with : List Atom → List Literal → List Term → Schema
disjunctive_with heads body variables = record { choice = false; heads = heads; body = body; variables = variables }

abbrev element_with : List Literal → Element → List Term → Schema
element_with body e variables = record { choice = true; heads = e.atom ∷ []; body = body ++ e.cond; variables = variables }

-- ---- any rule

-- a rule whose schema is that of a disjunction
pub plain_is : (atoms : List GroundAtom) (v : Vocabulary) (U : List Const) (ranks : List ℕ) (heads : List Atom) (body : List Literal) → Numbers atoms v → Ranked v U ranks → KnownParts v (Disj heads) body → variable_count (make_rule (Disj heads) body) ≤ 16 → flat_map (all_instances atoms U) (disjunctive_schema heads body ∷ []) ≡ schema_instances v ranks (found_disjunctive heads body)
plain_is atoms v U ranks heads body n ranked known few =
    append-nil (all_instances atoms U (disjunctive_schema heads body))
    ∙ schema_is atoms v (disjunctive_schema heads body) U ranks n ranked.same ranked.below (disjunctive_known v heads body known)
    ∙ ap (λ vs. schema_instances v ranks (disjunctive_with heads body vs)) (sym (disjunctive_found heads body few))

disjunctive_is : (atoms : List GroundAtom) (v : Vocabulary) (U : List Const) (ranks : List ℕ) (heads : List Atom) (body : List Literal) → Numbers atoms v → Ranked v U ranks → KnownRule v (Disj heads) body → flat_map (all_instances atoms U) (head_schemas (Disj heads) body) ≡ disjunctive_instances v ranks heads body
disjunctive_is atoms v U ranks [] body n ranked known =
    plain_is atoms v U ranks [] body n ranked (parts_of v (Disj []) body known known.intervals) known.few
disjunctive_is atoms v U ranks (a ∷ []) [] n ranked known = fact_is atoms U v a n (known_fact v a known)
disjunctive_is atoms v U ranks (a ∷ []) (l ∷ body) n ranked known =
    plain_is atoms v U ranks (a ∷ []) (l ∷ body) n ranked (parts_of v (Disj (a ∷ [])) (l ∷ body) known known.intervals) known.few
    ∙ ap (either v ranks (a ∷ []) (l ∷ body) a) (sym (ne_eqb (suc (length body)) 0 (suc_is_not (length body))))
disjunctive_is atoms v U ranks (a ∷ b ∷ more) body n ranked known =
    plain_is atoms v U ranks (a ∷ b ∷ more) body n ranked (parts_of v (Disj (a ∷ b ∷ more)) body known known.intervals) known.few
    ∙ ap (λ one. either v ranks (a ∷ b ∷ more) body a (one && (length body == 0))) (sym (ne_eqb (suc (suc (length more))) 1 (more_is_not (length more))))

choice_is : (atoms : List GroundAtom) (v : Vocabulary) (U : List Const) (ranks : List ℕ) (low : Option ℤ) (elements : List Element) (high : Option ℤ) (body : List Literal) → Numbers atoms v → Ranked v U ranks → KnownParts v (Choice low elements high) body → variable_count (make_rule (Choice low elements high) body) ≤ 16 → flat_map (all_instances atoms U) (head_schemas (Choice low elements high) body) ≡ flat_map (λ e. schema_instances v ranks (found_element body e)) elements
choice_is atoms v U ranks low elements high body n ranked known few =
    flat_map_map (all_instances atoms U) (element_schema body) elements
    ∙ flat_map_agrees (λ e. all_instances atoms U (element_schema body e)) (λ e. schema_instances v ranks (found_element body e)) elements
    (λ e i. schema_is atoms v (element_schema body e) U ranks n ranked.same ranked.below (element_known v low elements high body e i known)
    ∙ ap (λ vs. schema_instances v ranks (element_with body e vs)) (sym (element_found low elements high body e i few)))

head_is : (atoms : List GroundAtom) (v : Vocabulary) (U : List Const) (ranks : List ℕ) (head : Head) (body : List Literal) → Numbers atoms v → Ranked v U ranks → KnownRule v head body → rule_instances atoms U (make_rule head body) ≡ compiled_instances v ranks (make_rule head body)
head_is atoms v U ranks (Disj heads) body n ranked known = disjunctive_is atoms v U ranks heads body n ranked known
head_is atoms v U ranks (Choice low elements high) body n ranked known =
    choice_is atoms v U ranks low elements high body n ranked (parts_of v (Choice low elements high) body known known.intervals) known.few

pub rule_is : (atoms : List GroundAtom) (v : Vocabulary) (U : List Const) (ranks : List ℕ) (r : Rule) → Numbers atoms v → Ranked v U ranks → KnownRule v r.head r.body → rule_instances atoms U r ≡ compiled_instances v ranks r
rule_is atoms v U ranks r n ranked known = head_is atoms v U ranks r.head r.body n ranked known
