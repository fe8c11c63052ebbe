-- The atoms of a rule's ground bounds over a level's universe stand in the level's base.
use Rattle.std.proofs.Common.{ℕ, zero, suc, zero-add, ◌≡◌, ◌⊎◌, ◌+◌, ◌≤◌, refl, sym, ◌∙◌, ap, subst, inl, inr, Bool, true, false, cond, List, [], ◌∷◌, ◌++◌, map, length, replicate, arith, Option}
use Rattle.std.specs.Prelude.{ℤ, if◌then◌else◌, is_some, ◌||◌}
use Rattle.std.specs.List.{flat_map, list_all}
use Rattle.asp_defs.specs.declared.ground.Const.{Const}
use Rattle.asp_defs.specs.declared.ground.GroundAtom.{GroundAtom}
use Rattle.asp_defs.specs.declared.ground.Counted.{Counted}
use Rattle.asp_defs.specs.declared.ground.Bound.{Bound}
use Rattle.asp_defs.specs.declared.syntax.Term.{Term}
use Rattle.asp_defs.specs.declared.syntax.Atom.{Atom}
use Rattle.asp_defs.specs.declared.syntax.Literal.{Literal}
use Rattle.asp_defs.specs.declared.syntax.Element.{Element}
use Rattle.asp_defs.specs.declared.syntax.Head.{Head}
use Rattle.asp_defs.specs.declared.syntax.Head.TheVariants.{Disj, Choice}
use Rattle.asp_defs.specs.declared.syntax.Program.{Program}
use Rattle.asp_defs.specs.Lists.{IsIn}
use Rattle.asp_defs.specs.Constants.{universe, atom_constants, literal_constants, element_constants, head_constants}
use Rattle.asp_defs.specs.Bases.{Predicate, predicates, atom_predicate, literal_predicates, element_predicates, head_predicates, base_atoms, atom_number, last_level, product}
use Rattle.asp_defs.specs.Instances.{atom_variables, literal_variables, first_occurrences, Schema, atom_instance, comparison_true, pos_atoms, neg_atoms, disjunctive_schema, body_variables}
use Rattle.asp_defs.specs.BoundInstances.{bound_variables, own_count, counted_instance, element_terms, bound_instance, head_bounds}
use Rattle.asp_defs.specs.Bounds.{term_atoms, bound_atoms}
use Rattle.asp_defs.specs.ConstraintPart.{is_no_head}
use Rattle.asp_defs.specs.Games.{within}
use Rattle.asp_defs.proofs.Lists.{both, all_at, append_at, append_left, append_right, map_at, map_from}
use Rattle.asp_defs.proofs.TextRefutations.{clash}
use Rattle.asp_checked.specs.Condition.{is_single_atom, is_single_literal, is_single_element, is_single_head, has_intervals_in_facts}
use Rattle.asp_walk.proofs.Lists.{flat_at, flat_from}
use Rattle.asp_template.proofs.Parts.{make_rule}
use Rattle.asp_template.proofs.Products.{with_first}
use Rattle.asp_template.proofs.Occurrences.{occurs, few_among}
use Rattle.asp_template.proofs.RuleInstances.{written_by, literal_self, bound_written}
use Rattle.asp_ground.proofs.BaseAtoms.{base_numbers, within_from}
use Rattle.asp_ground.proofs.SchemaAtoms.{Part, KnownAtom, known_atom, body_known, KnownSchema, under_within}
use Rattle.asp_ground.proofs.RuleSchemas.{Written, disjunctive_known}

-- ---- values of a body's variables, and behind them those of an element's own

product_join : {A : Type 0} (xss yss : List (List A)) (xs ys : List A) → IsIn xs (product xss) → IsIn ys (product yss) → IsIn (xs ++ ys) (product (xss ++ yss))
product_join {A} [] yss xs ys (inl e) j = subst (λ (zs : List A). IsIn (zs ++ ys) (product yss)) (sym e) j
product_join [] yss xs ys (inr i) j = absurd i
product_join {A} (zs ∷ xss) yss xs ys i j =
    let found = flat_at (with_first (product xss)) zs xs i in
    let rest = map_at (λ tail. found.0 ∷ tail) (product xss) xs found.2 in
    subst (λ (ws : List A). IsIn (ws ++ ys) (product (zs ∷ (xss ++ yss)))) (sym rest.2)
    (flat_from (with_first (product (xss ++ yss))) zs found.0 (found.0 ∷ (rest.0 ++ ys)) found.1
    (map_from (λ tail. found.0 ∷ tail) (product (xss ++ yss)) (rest.0 ++ ys) (product_join xss yss rest.0 ys rest.1 j)))

pub replicate_join : {A : Type 0} (m n : ℕ) (x : A) → replicate m x ++ replicate n x ≡ replicate (m + n) x
replicate_join zero n x = ap (λ k. replicate k x) (sym (zero-add n))
replicate_join (suc m) n x =
    let count : suc (m + n) ≡ suc m + n = omega arith in
    ap (λ xs. x ∷ xs) (replicate_join m n x) ∙ ap (λ k. replicate k x) count

-- a body has no more variables than it has with an element
pub fewer_variables : (body : List Literal) (e : Element) → length (body_variables body) ≤ length (bound_variables body e)
fewer_variables body e =
    few_among (flat_map literal_variables body) (bound_written body e) (λ w i. written_by literal_variables body literal_self w i)
    (λ w i. append_left (flat_map literal_variables body) (atom_variables e.atom ++ flat_map literal_variables e.cond) w i)

pub values_join : (body : List Literal) (e : Element) (U values own : List Const) → IsIn values (product (replicate (length (body_variables body)) U)) → IsIn own (product (replicate (own_count body e) U)) → IsIn (values ++ own) (product (replicate (length (bound_variables body e)) U))
values_join body e U values own i j =
    let fewer = fewer_variables body e in
    let sum : length (body_variables body) + own_count body e ≡ length (bound_variables body e) = omega (arith, fewer) in
    subst (λ n. IsIn (values ++ own) (product (replicate n U))) sum
    (subst (λ (Us : List (List Const)). IsIn (values ++ own) (product Us)) (replicate_join (length (body_variables body)) (own_count body e) U)
    (product_join (replicate (length (body_variables body)) U) (replicate (own_count body e) U) values own i j))

-- ---- an element's counted terms

-- the schema of an element alone
abbrev pub term_schema : List Literal → Element → Schema
term_schema body e = record { choice = false; heads = e.atom ∷ []; body = e.cond; variables = bound_variables body e }

term_known : (U : List Const) (Q : List Predicate) (elements : List Element) (body : List Literal) (e : Element) → IsIn e elements → Written U Q (flat_map element_constants elements ++ flat_map literal_constants body) (flat_map element_predicates elements ++ flat_map literal_predicates body) → is_single_element e ≡ true → KnownSchema U Q (term_schema body e)
term_known U Q elements body e m written here = record {
  heads = λ a i. elim i [
    | inl same ↦ subst (λ b. KnownAtom U Q vars b) (sym same) (known_atom U Q vars e.atom atom_part single.0)
    | inr k ↦ absurd k
  ];
  body = λ l i. body_known U Q vars e.cond cond_part single.1 l i;
}
  where
    vars : List Term
    vars = first_occurrences (bound_written body e)

    single : (is_single_atom e.atom ≡ true) × (list_all is_single_literal e.cond ≡ true)
    single = both (is_single_atom e.atom) (list_all is_single_literal e.cond) here

    known_constant : (c : Const) → IsIn c (atom_constants e.atom ++ flat_map literal_constants e.cond) → IsIn c U
    known_constant c i = written.constants c (append_left (flat_map element_constants elements) (flat_map literal_constants body) c (flat_from element_constants elements e c m i))

    known_predicate : (q : Predicate) → IsIn q (atom_predicate e.atom ∷ flat_map literal_predicates e.cond) → IsIn q Q
    known_predicate q i = written.predicates q (append_left (flat_map element_predicates elements) (flat_map literal_predicates body) q (flat_from element_predicates elements e q m i))

    atom_part : Part U Q (first_occurrences (bound_written body e)) (atom_constants e.atom) (atom_predicate e.atom ∷ []) (atom_variables e.atom)
    atom_part = record {
      constants = λ c j. known_constant c (append_left (atom_constants e.atom) (flat_map literal_constants e.cond) c j);
      predicates = λ q j. known_predicate q (append_left (atom_predicate e.atom ∷ []) (flat_map literal_predicates e.cond) q j);
      variables = λ w same j. occurs (bound_written body e) w same (append_right (flat_map literal_variables body) (atom_variables e.atom ++ flat_map literal_variables e.cond) w (append_left (atom_variables e.atom) (flat_map literal_variables e.cond) w j));
    }

    cond_part : Part U Q (first_occurrences (bound_written body e)) (flat_map literal_constants e.cond) (flat_map literal_predicates e.cond) (flat_map literal_variables e.cond)
    cond_part = record {
      constants = λ c j. known_constant c (append_right (atom_constants e.atom) (flat_map literal_constants e.cond) c j);
      predicates = λ q j. known_predicate q (inr j);
      variables = λ w same j. occurs (bound_written body e) w same (append_right (flat_map literal_variables body) (atom_variables e.atom ++ flat_map literal_variables e.cond) w (append_right (atom_variables e.atom) (flat_map literal_variables e.cond) w j));
    }

abbrev pub counted_under : List GroundAtom → List Term → Element → List Const → Counted
counted_under atoms variables e values = record {
  atom = atom_number atoms (atom_instance variables values e.atom);
  pos = map (λ (a : Atom). atom_number atoms (atom_instance variables values a)) (flat_map pos_atoms e.cond);
  neg = map (λ (a : Atom). atom_number atoms (atom_instance variables values a)) (flat_map neg_atoms e.cond);
}

one_or_none : {A : Type 0} (b : Bool) (x r : A) → IsIn r (cond b (x ∷ []) []) → r ≡ x
one_or_none true x r (inl e) = e
one_or_none true x r (inr i) = absurd i
one_or_none false x r i = absurd i

terms_within : (p : Program) (i : ℕ) (elements : List Element) (body : List Literal) (e : Element) (values : List Const) → IsIn e elements → Written (universe p i) (predicates p i) (flat_map element_constants elements ++ flat_map literal_constants body) (flat_map element_predicates elements ++ flat_map literal_predicates body) → is_single_element e ≡ true → IsIn values (product (replicate (length (body_variables body)) (universe p i))) → (c : Counted) → IsIn c (element_terms (base_atoms p (last_level p)) (universe p i) body values e) → (n : ℕ) → IsIn n (term_atoms c) → IsIn n (base_numbers p i)
terms_within p i elements body e values m written single at c j n k =
    let atoms = base_atoms p (last_level p) in
    let own = flat_at (λ own. counted_instance atoms (bound_variables body e) e (values ++ own)) (product (replicate (own_count body e) (universe p i))) c j in
    let is : c ≡ counted_under atoms (bound_variables body e) e (values ++ own.0) =
    one_or_none (list_all (comparison_true (bound_variables body e) (values ++ own.0)) e.cond) (counted_under atoms (bound_variables body e) e (values ++ own.0)) c own.2 in
    under_within p i (term_schema body e) (values ++ own.0) (values_join body e (universe p i) values own.0 at own.1)
    (term_known (universe p i) (predicates p i) elements body e m written single) n
    (subst (λ (d : Counted). IsIn n (term_atoms d)) is k)

-- ---- bounds

abbrev pub bound_under : List GroundAtom → List Const → Option ℤ → List Element → Option ℤ → List Literal → List Const → Bound
bound_under atoms U low elements high body values = record {
  pos = map (λ (a : Atom). atom_number atoms (atom_instance (body_variables body) values a)) (flat_map pos_atoms body);
  neg = map (λ (a : Atom). atom_number atoms (atom_instance (body_variables body) values a)) (flat_map neg_atoms body);
  low = low;
  high = high;
  counted = flat_map (element_terms atoms U body values) elements;
}

choice_within : (p : Program) (i : ℕ) (low : Option ℤ) (elements : List Element) (high : Option ℤ) (body : List Literal) → Written (universe p i) (predicates p i) (flat_map element_constants elements ++ flat_map literal_constants body) (flat_map element_predicates elements ++ flat_map literal_predicates body) → list_all is_single_element elements ≡ true → list_all is_single_literal body ≡ true → (b : Bound) → IsIn b (flat_map (bound_instance (base_atoms p (last_level p)) (universe p i) low elements high body) (product (replicate (length (body_variables body)) (universe p i)))) → (n : ℕ) → IsIn n (bound_atoms b) → IsIn n (base_numbers p i)
choice_within p i low elements high body written heads rest b j n k =
    go (append_at (map number (flat_map pos_atoms body)) (map number (flat_map neg_atoms body) ++ flat_map term_atoms counted) n (subst (λ (d : Bound). IsIn n (bound_atoms d)) is k))
  where
    atoms : List GroundAtom
    atoms = base_atoms p (last_level p)

    found : (values : List Const) × IsIn values (product (replicate (length (body_variables body)) (universe p i))) × IsIn b (bound_instance (base_atoms p (last_level p)) (universe p i) low elements high body values)
    found = flat_at (bound_instance (base_atoms p (last_level p)) (universe p i) low elements high body) (product (replicate (length (body_variables body)) (universe p i))) b j

    number : Atom → ℕ
    number a = atom_number (base_atoms p (last_level p)) (atom_instance (body_variables body) found.0 a)

    counted : List Counted
    counted = flat_map (element_terms (base_atoms p (last_level p)) (universe p i) body found.0) elements

    is : b ≡ bound_under (base_atoms p (last_level p)) (universe p i) low elements high body found.0
    is = one_or_none (list_all (comparison_true (body_variables body) found.0) body) (bound_under (base_atoms p (last_level p)) (universe p i) low elements high body found.0) b found.2

    of_body : IsIn n (map number (flat_map pos_atoms body) ++ map number (flat_map neg_atoms body)) → IsIn n (base_numbers p i)
    of_body h =
        under_within p i (disjunctive_schema [] body) found.0 found.1
        (disjunctive_known (universe p i) (predicates p i) [] body (record {
          constants = λ c m. written.constants c (append_right (flat_map element_constants elements) (flat_map literal_constants body) c m);
          predicates = λ q m. written.predicates q (append_right (flat_map element_predicates elements) (flat_map literal_predicates body) q m);
        }) refl rest) n h

    go : IsIn n (map number (flat_map pos_atoms body)) ⊎ IsIn n (map number (flat_map neg_atoms body) ++ flat_map term_atoms counted) → IsIn n (base_numbers p i)
    go (inl h) = of_body (append_left (map number (flat_map pos_atoms body)) (map number (flat_map neg_atoms body)) n h)
    go (inr h) = elim (append_at (map number (flat_map neg_atoms body)) (flat_map term_atoms counted) n h) [
      | inl g ↦ of_body (append_right (map number (flat_map pos_atoms body)) (map number (flat_map neg_atoms body)) n g)
      | inr g ↦
          let c = flat_at term_atoms counted n g in
          let e = flat_at (element_terms (base_atoms p (last_level p)) (universe p i) body found.0) elements c.0 c.1 in
          terms_within p i elements body e.0 found.0 e.1 written (all_at is_single_element elements e.0 heads e.1) found.1 c.0 e.2 n c.2
    ]

-- a bound is there only where the choice has one
some_bound : {A : Type 0} (t : Bool) (xs : List A) (x : A) → IsIn x (if t then xs else []) → IsIn x xs
some_bound true xs x i = i
some_bound false xs x i = absurd i

pub bound_within : (p : Program) (i : ℕ) (head : Head) (body : List Literal) → Written (universe p i) (predicates p i) (head_constants head ++ flat_map literal_constants body) (head_predicates head ++ flat_map literal_predicates body) → has_intervals_in_facts (make_rule head body) ≡ true → (b : Bound) → IsIn b (head_bounds (base_atoms p (last_level p)) (universe p i) head body) → within (bound_atoms b) (base_numbers p i) ≡ true
bound_within p i (Disj heads) body written single b j = absurd j
bound_within p i (Choice low elements high) body written single b j =
    let parts = both (is_single_head (Choice low elements high)) (list_all is_single_literal body) single in
    let bounds = flat_map (bound_instance (base_atoms p (last_level p)) (universe p i) low elements high body) (product (replicate (length (body_variables body)) (universe p i))) in
    within_from (bound_atoms b) (base_numbers p i)
    (choice_within p i low elements high body written parts.0 parts.1 b (some_bound (is_some low || is_some high) bounds b j))

-- a constraint has no bound
pub no_bounds : (atoms : List GroundAtom) (U : List Const) (head : Head) (body : List Literal) → is_no_head head ≡ true → head_bounds atoms U head body ≡ []
no_bounds atoms U (Disj heads) body h = refl
no_bounds atoms U (Choice low elements high) body h = clash h
