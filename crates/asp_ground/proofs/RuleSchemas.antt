-- What is known of the schemas of a rule: their atoms stand over what is written in the rule, and choices have one head.
use Rattle.std.proofs.Common.{◌≡◌, refl, sym, ◌∙◌, ap, subst, inl, inr, Bool, true, not, ◌||◌, List, [], ◌∷◌, ◌++◌, map, length}
use Rattle.std.specs.Prelude.{◌==◌}
use Rattle.std.specs.List.{flat_map, list_all}
use Rattle.std.proofs.lemmas.List.{length-map}
use Rattle.asp_defs.specs.declared.ground.Const.{Const}
use Rattle.asp_defs.specs.declared.ground.Const.TheVariants as const
use Rattle.asp_defs.specs.declared.ground.GroundAtom.{GroundAtom}
use Rattle.asp_defs.specs.declared.syntax.Term.{Term}
use Rattle.asp_defs.specs.declared.syntax.Term.TheVariants.{Int, Sym, Var, Anon, Range}
use Rattle.asp_defs.specs.declared.syntax.Atom.{Atom}
use Rattle.asp_defs.specs.declared.syntax.Literal.{Literal}
use Rattle.asp_defs.specs.declared.syntax.Element.{Element}
use Rattle.asp_defs.specs.declared.syntax.Head.{Head}
use Rattle.asp_defs.specs.declared.syntax.Head.TheVariants.{Disj, Choice}
use Rattle.asp_defs.specs.Lists.{IsIn}
use Rattle.asp_defs.specs.Constants.{interval, term_constants, atom_constants, literal_constants, element_constants, head_constants}
use Rattle.asp_defs.specs.Bases.{Predicate, atom_predicate, literal_predicates, element_predicates, head_predicates, atom_number, product}
use Rattle.asp_defs.specs.Instances.{atom_variables, literal_variables, first_occurrences, Schema, atom_instance, term_choices, spread, disjunctive_schema, element_schema, head_schemas}
use Rattle.asp_defs.specs.ConstraintPart.{is_no_head}
use Rattle.asp_defs.specs.Games.{is_formed, is_constraint}
use Rattle.asp_defs.proofs.Lists.{both, and_true, all_at, all_from, append_at, append_left, append_right, map_at, map_from}
use Rattle.asp_defs.proofs.TextRefutations.{clash}
use Rattle.asp_checked.specs.Condition.{is_single, is_single_atom, is_single_literal, is_single_element, is_single_head, has_intervals_in_facts}
use Rattle.asp_walk.proofs.Lists.{flat_at, flat_from}
use Rattle.asp_template.proofs.Parts.{make_predicate, make_rule, with_args, disjunctive_written, element_written}
use Rattle.asp_template.proofs.Products.{tuple_length, tuple_member}
use Rattle.asp_template.proofs.Occurrences.{occurs}
use Rattle.asp_ground.proofs.SchemaAtoms.{Part, KnownAtom, known_atom, body_known, KnownSchema, rule_under}

-- the constants and predicates of a part of a rule are known
pub record Written (U : List Const) (Q : List Predicate) (cs : List Const) (qs : List Predicate) : Type 0 where
  pub constants : (c : Const) → IsIn c cs → IsIn c U
  pub predicates : (q : Predicate) → IsIn q qs → IsIn q Q

-- ---- disjunctions

pub disjunctive_known : (U : List Const) (Q : List Predicate) (atoms : List Atom) (body : List Literal) → Written U Q (flat_map atom_constants atoms ++ flat_map literal_constants body) (map atom_predicate atoms ++ flat_map literal_predicates body) → list_all is_single_atom atoms ≡ true → list_all is_single_literal body ≡ true → KnownSchema U Q (disjunctive_schema atoms body)
disjunctive_known U Q atoms body written heads rest = record {
  heads = λ a i. known_atom U Q vars a (atom_part a i) (all_at is_single_atom atoms a heads i);
  body = λ l i. body_known U Q vars body body_part rest l i;
}
  where
    vars : List Term
    vars = first_occurrences (disjunctive_written atoms body)

    atom_part : (a : Atom) → IsIn a atoms → Part U Q (first_occurrences (disjunctive_written atoms body)) (atom_constants a) (atom_predicate a ∷ []) (atom_variables a)
    atom_part a i = record {
      constants = λ c j. written.constants c (append_left (flat_map atom_constants atoms) (flat_map literal_constants body) c (flat_from atom_constants atoms a c i j));
      predicates = λ q j. elim j [
        | inl e ↦ subst (λ r. IsIn r Q) (sym e) (written.predicates (atom_predicate a) (append_left (map atom_predicate atoms) (flat_map literal_predicates body) (atom_predicate a) (map_from atom_predicate atoms a i)))
        | inr k ↦ absurd k
      ];
      variables = λ w same j. occurs (disjunctive_written atoms body) w same (append_left (flat_map atom_variables atoms) (flat_map literal_variables body) w (flat_from atom_variables atoms a w i j));
    }

    body_part : Part U Q (first_occurrences (disjunctive_written atoms body)) (flat_map literal_constants body) (flat_map literal_predicates body) (flat_map literal_variables body)
    body_part = record {
      constants = λ c j. written.constants c (append_right (flat_map atom_constants atoms) (flat_map literal_constants body) c j);
      predicates = λ q j. written.predicates q (append_right (map atom_predicate atoms) (flat_map literal_predicates body) q j);
      variables = λ w same j. occurs (disjunctive_written atoms body) w same (append_right (flat_map atom_variables atoms) (flat_map literal_variables body) w j);
    }

-- ---- elements

element_known : (U : List Const) (Q : List Predicate) (elements : List Element) (body : List Literal) (e : Element) → IsIn e elements → Written U Q (flat_map element_constants elements ++ flat_map literal_constants body) (flat_map element_predicates elements ++ flat_map literal_predicates body) → is_single_element e ≡ true → list_all is_single_literal body ≡ true → KnownSchema U Q (element_schema body e)
element_known U Q elements body e m written here rest = record {
  heads = λ a i. elim i [
    | inl same ↦ subst (λ b. KnownAtom U Q vars b) (sym same) (known_atom U Q vars e.atom atom_part single.0)
    | inr k ↦ absurd k
  ];
  body = λ l i. elim (append_at body e.cond l i) [
    | inl k ↦ body_known U Q vars body body_part rest l k
    | inr k ↦ body_known U Q vars e.cond cond_part single.1 l k
  ];
}
  where
    vars : List Term
    vars = first_occurrences (element_written body e)

    single : (is_single_atom e.atom ≡ true) × (list_all is_single_literal e.cond ≡ true)
    single = both (is_single_atom e.atom) (list_all is_single_literal e.cond) here

    known_constant : (c : Const) → IsIn c (atom_constants e.atom ++ flat_map literal_constants e.cond) → IsIn c U
    known_constant c i = written.constants c (append_left (flat_map element_constants elements) (flat_map literal_constants body) c (flat_from element_constants elements e c m i))

    known_predicate : (q : Predicate) → IsIn q (atom_predicate e.atom ∷ flat_map literal_predicates e.cond) → IsIn q Q
    known_predicate q i = written.predicates q (append_left (flat_map element_predicates elements) (flat_map literal_predicates body) q (flat_from element_predicates elements e q m i))

    atom_part : Part U Q (first_occurrences (element_written body e)) (atom_constants e.atom) (atom_predicate e.atom ∷ []) (atom_variables e.atom)
    atom_part = record {
      constants = λ c j. known_constant c (append_left (atom_constants e.atom) (flat_map literal_constants e.cond) c j);
      predicates = λ q j. known_predicate q (append_left (atom_predicate e.atom ∷ []) (flat_map literal_predicates e.cond) q j);
      variables = λ w same j. occurs (element_written body e) w same (append_left (atom_variables e.atom) (flat_map literal_variables e.cond ++ flat_map literal_variables body) w j);
    }

    cond_part : Part U Q (first_occurrences (element_written body e)) (flat_map literal_constants e.cond) (flat_map literal_predicates e.cond) (flat_map literal_variables e.cond)
    cond_part = record {
      constants = λ c j. known_constant c (append_right (atom_constants e.atom) (flat_map literal_constants e.cond) c j);
      predicates = λ q j. known_predicate q (inr j);
      variables = λ w same j. occurs (element_written body e) w same (append_right (atom_variables e.atom) (flat_map literal_variables e.cond ++ flat_map literal_variables body) w (append_left (flat_map literal_variables e.cond) (flat_map literal_variables body) w j));
    }

    body_part : Part U Q (first_occurrences (element_written body e)) (flat_map literal_constants body) (flat_map literal_predicates body) (flat_map literal_variables body)
    body_part = record {
      constants = λ c j. written.constants c (append_right (flat_map element_constants elements) (flat_map literal_constants body) c j);
      predicates = λ q j. written.predicates q (append_right (flat_map element_predicates elements) (flat_map literal_predicates body) q j);
      variables = λ w same j. occurs (element_written body e) w same (append_right (atom_variables e.atom) (flat_map literal_variables e.cond ++ flat_map literal_variables body) w (append_right (flat_map literal_variables e.cond) (flat_map literal_variables body) w j));
    }

-- ---- facts with intervals

-- what stands for an argument is a constant of it, or it itself, and no interval
one_constant : (t u : Term) → u ≡ t → (c : Const) → IsIn c (term_constants u) → IsIn c (term_constants t)
one_constant t u e c j = subst (λ w. IsIn c (term_constants w)) e j

chosen_constant : (t u : Term) → IsIn u (term_choices t) → (c : Const) → IsIn c (term_constants u) → IsIn c (term_constants t)
chosen_constant (Int x) u (inl e) c j = one_constant (Int x) u e c j
chosen_constant (Int x) u (inr i) c j = absurd i
chosen_constant (Sym s) u (inl e) c j = one_constant (Sym s) u e c j
chosen_constant (Sym s) u (inr i) c j = absurd i
chosen_constant (Var v) u (inl e) c j = one_constant (Var v) u e c j
chosen_constant (Var v) u (inr i) c j = absurd i
chosen_constant (Anon k) u (inl e) c j = one_constant (Anon k) u e c j
chosen_constant (Anon k) u (inr i) c j = absurd i
chosen_constant (Range low high) u i c j =
    let x = map_at Int (interval low high) u i in
    elim (one_constant (Int x.0) u x.2 c j) [
      | inl e ↦ subst (λ d. IsIn d (map const.Int (interval low high))) (sym e) (map_from const.Int (interval low high) x.0 x.1)
      | inr k ↦ absurd k
    ]

chosen_single : (t u : Term) → IsIn u (term_choices t) → is_single u ≡ true
chosen_single (Int x) u (inl e) = ap is_single e
chosen_single (Int x) u (inr i) = absurd i
chosen_single (Sym s) u (inl e) = ap is_single e
chosen_single (Sym s) u (inr i) = absurd i
chosen_single (Var v) u (inl e) = ap is_single e
chosen_single (Var v) u (inr i) = absurd i
chosen_single (Anon k) u (inl e) = ap is_single e
chosen_single (Anon k) u (inr i) = absurd i
chosen_single (Range low high) u i = let x = map_at Int (interval low high) u i in ap is_single x.2

-- an argument of an atom for which another stands
chosen_from : (a : Atom) (args : List Term) → IsIn args (product (map term_choices a.args)) → (u : Term) → IsIn u args → (t : Term) × IsIn t a.args × IsIn u (term_choices t)
chosen_from a args m u i =
    let one = tuple_member (map term_choices a.args) args u m i in
    let t = map_at term_choices a.args one.0 one.1 in
    (t.0, t.1, subst (λ us. IsIn u us) t.2 one.2)

fact_known : (U : List Const) (Q : List Predicate) (a : Atom) (args : List Term) → Written U Q (flat_map atom_constants (a ∷ []) ++ []) (map atom_predicate (a ∷ []) ++ []) → IsIn args (product (map term_choices a.args)) → KnownSchema U Q (disjunctive_schema (with_args a args ∷ []) [])
fact_known U Q a args written m =
    disjunctive_known U Q (with_args a args ∷ []) [] (record { constants = constants; predicates = predicates })
    (and_true (is_single_atom (with_args a args)) true (all_from is_single args (λ u i. let t = chosen_from a args m u i in chosen_single t.0 u t.2)) refl) refl
  where
    constants : (c : Const) → IsIn c (flat_map atom_constants (with_args a args ∷ []) ++ []) → IsIn c U
    constants c i = elim (append_at (flat_map atom_constants (with_args a args ∷ [])) [] c i) [
      | inl j ↦ elim (append_at (atom_constants (with_args a args)) [] c j) [
        | inl k ↦
            let u = flat_at term_constants args c k in
            let t = chosen_from a args m u.0 u.1 in
            written.constants c (append_left (flat_map atom_constants (a ∷ [])) [] c (append_left (atom_constants a) [] c (flat_from term_constants a.args t.0 c t.1 (chosen_constant t.0 u.0 t.2 c u.2))))
        | inr k ↦ absurd k
      ]
      | inr j ↦ absurd j
    ]

    predicates : (q : Predicate) → IsIn q (map atom_predicate (with_args a args ∷ []) ++ []) → IsIn q Q
    predicates q (inr i) = absurd i
    predicates q (inl e) =
        let long : length args ≡ length a.args = tuple_length (map term_choices a.args) args m ∙ length-map a.args term_choices in
        subst (λ r. IsIn r Q) (sym (e ∙ ap (make_predicate a.name) long)) (written.predicates (atom_predicate a) (inl refl))

-- ---- any rule

pub schema_known : (U : List Const) (Q : List Predicate) (head : Head) (body : List Literal) → Written U Q (head_constants head ++ flat_map literal_constants body) (head_predicates head ++ flat_map literal_predicates body) → has_intervals_in_facts (make_rule head body) ≡ true → (s : Schema) → IsIn s (head_schemas head body) → KnownSchema U Q s
schema_known U Q (Disj []) body written single s (inl e) =
    subst (λ x. KnownSchema U Q x) (sym e) (disjunctive_known U Q [] body written refl single)
schema_known U Q (Disj []) body written single s (inr i) = absurd i
schema_known U Q (Disj (a ∷ [])) [] written single s i =
    let b = map_at (λ b. disjunctive_schema (b ∷ []) []) (spread a) s i in
    let args = map_at (with_args a) (product (map term_choices a.args)) b.0 b.1 in
    subst (λ x. KnownSchema U Q x) (sym (b.2 ∙ ap (λ c. disjunctive_schema (c ∷ []) []) args.2)) (fact_known U Q a args.0 written args.1)
schema_known U Q (Disj (a ∷ [])) (l ∷ ls) written single s (inl e) =
    let parts = both (is_single_head (Disj (a ∷ []))) (list_all is_single_literal (l ∷ ls)) single in
    subst (λ x. KnownSchema U Q x) (sym e) (disjunctive_known U Q (a ∷ []) (l ∷ ls) written parts.0 parts.1)
schema_known U Q (Disj (a ∷ [])) (l ∷ ls) written single s (inr i) = absurd i
schema_known U Q (Disj (a ∷ b ∷ more)) body written single s (inl e) =
    let parts = both (is_single_head (Disj (a ∷ b ∷ more))) (list_all is_single_literal body) single in
    subst (λ x. KnownSchema U Q x) (sym e) (disjunctive_known U Q (a ∷ b ∷ more) body written parts.0 parts.1)
schema_known U Q (Disj (a ∷ b ∷ more)) body written single s (inr i) = absurd i
schema_known U Q (Choice low elements high) body written single s i =
    let parts = both (is_single_head (Choice low elements high)) (list_all is_single_literal body) single in
    let e = map_at (element_schema body) elements s i in
    subst (λ x. KnownSchema U Q x) (sym e.2) (element_known U Q elements body e.0 e.1 written (all_at is_single_element elements e.0 parts.0 e.1) parts.1)

-- ---- the form of schemas

-- a choice has one head
abbrev has_form : Schema → Bool
has_form s = not s.choice || (length s.heads == 1)

schema_formed : (head : Head) (body : List Literal) (s : Schema) → IsIn s (head_schemas head body) → has_form s ≡ true
schema_formed (Disj []) body s (inl e) = ap has_form e
schema_formed (Disj []) body s (inr i) = absurd i
schema_formed (Disj (a ∷ [])) [] s i = let b = map_at (λ b. disjunctive_schema (b ∷ []) []) (spread a) s i in ap has_form b.2
schema_formed (Disj (a ∷ [])) (l ∷ ls) s (inl e) = ap has_form e
schema_formed (Disj (a ∷ [])) (l ∷ ls) s (inr i) = absurd i
schema_formed (Disj (a ∷ b ∷ more)) body s (inl e) = ap has_form e
schema_formed (Disj (a ∷ b ∷ more)) body s (inr i) = absurd i
schema_formed (Choice low elements high) body s i = let e = map_at (element_schema body) elements s i in ap has_form e.2

pub instance_formed : (atoms : List GroundAtom) (head : Head) (body : List Literal) (s : Schema) (values : List Const) → IsIn s (head_schemas head body) → is_formed (rule_under atoms s values) ≡ true
instance_formed atoms head body s values i =
    ap (λ n. not s.choice || (n == 1)) (length-map s.heads (λ (a : Atom). atom_number atoms (atom_instance s.variables values a)))
    ∙ schema_formed head body s i

-- the one schema of a constraint
constraint_schema : (head : Head) (body : List Literal) → is_no_head head ≡ true → (s : Schema) → IsIn s (head_schemas head body) → s ≡ disjunctive_schema [] body
constraint_schema (Disj []) body h s (inl e) = e
constraint_schema (Disj []) body h s (inr i) = absurd i
constraint_schema (Disj (a ∷ more)) body h s i = clash h
constraint_schema (Choice low elements high) body h s i = clash h

pub instance_constraint : (atoms : List GroundAtom) (head : Head) (body : List Literal) (s : Schema) (values : List Const) → is_no_head head ≡ true → IsIn s (head_schemas head body) → is_constraint (rule_under atoms s values) ≡ true
instance_constraint atoms head body s values h i = ap (λ x. is_constraint (rule_under atoms x values)) (constraint_schema head body h s i)
