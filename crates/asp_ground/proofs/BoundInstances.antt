-- The ground bounds of a rule are those of its template.
use Rattle.std.proofs.Common.{ℕ, ◌≡◌, ◌-◌, ◌<◌, ◌≤◌, refl, sym, ◌∙◌, ap, subst, inl, inr, Bool, false, true, List, [], ◌∷◌, ◌++◌, map, length, replicate, length-append, arith}
use Rattle.std.specs.Prelude.{ℤ, Option, if◌then◌else◌}
use Rattle.std.specs.List.{flat_map, list_all}
use Rattle.std.proofs.lemmas.List.{length-replicate, map-append}
use Rattle.asp_defs.specs.declared.ground.Const.{Const}
use Rattle.asp_defs.specs.declared.ground.GroundAtom.{GroundAtom}
use Rattle.asp_defs.specs.declared.ground.Counted.{Counted}
use Rattle.asp_defs.specs.declared.ground.Bound.{Bound}
use Rattle.asp_defs.specs.declared.syntax.Term.{Term}
use Rattle.asp_defs.specs.declared.syntax.Atom.{Atom}
use Rattle.asp_defs.specs.declared.syntax.Literal.{Literal}
use Rattle.asp_defs.specs.declared.syntax.Element.{Element}
use Rattle.asp_defs.specs.declared.syntax.Head.{Head}
use Rattle.asp_defs.specs.declared.syntax.Head.TheVariants.{Disj, Choice}
use Rattle.asp_defs.specs.declared.syntax.Rule.{Rule}
use Rattle.asp_defs.specs.Lists.{IsIn}
use Rattle.asp_defs.specs.Constants.{atom_constants, literal_constants, element_constants}
use Rattle.asp_defs.specs.Bases.{Predicate, atom_predicate, literal_predicates, element_predicates, atom_number, product}
use Rattle.asp_defs.specs.Instances.{atom_variables, literal_variables, first_occurrences, atom_instance, pos_atoms, neg_atoms, disjunctive_schema, body_variables, has_bound}
use Rattle.asp_defs.specs.BoundInstances.{bound_variables, own_count, counted_instance, element_terms, bound_instance, head_bounds, rule_bounds}
use Rattle.asp_defs.specs.Limits.{variable_count}
use Rattle.asp_defs.proofs.Lists.{both, all_at, append_at, append_left, append_right}
use Rattle.asp_checked.specs.Condition.{is_single_atom, is_single_literal, is_single_element}
use Rattle.asp_walk.proofs.Lists.{flat_from}
use Rattle.asp_atoms.specs.declared.vocabularies.Vocabulary.{Vocabulary}
use Rattle.asp_atoms.specs.Vocabularies.{unnumbered}
use Rattle.asp_atoms.proofs.Choosing.{flat_map_agrees}
use Rattle.asp_ground.specs.declared.bound_template.ElementTemplate.{ElementTemplate}
use Rattle.asp_ground.specs.declared.bound_template.BoundTemplate.{BoundTemplate}
use Rattle.asp_template.specs.Ranks.{capped}
use Rattle.asp_template.specs.Templates.{number_at, is_true}
use Rattle.asp_template.specs.Compiled.{comparisons_of, atom_template, compiled}
use Rattle.asp_template.specs.Variables.{found_variables}
use Rattle.asp_ground.specs.BoundTemplates.{term_at, terms_at, bound_at, bounds_over, element_template, choice_bounds, head_bounds_by, compiled_bounds}
use Rattle.asp_template.proofs.Parts.{make_rule}
use Rattle.asp_template.proofs.Products.{flat_map_map, product_map, replicate_map, in_replicate, tuple_length, tuple_member}
use Rattle.asp_template.proofs.Known.{Numbers, KnownAtom, KnownLiteral, KnownSchema}
use Rattle.asp_template.proofs.Numbers.{const_at, atom_is}
use Rattle.asp_template.proofs.Schemas.{Fits, comparisons_are, atoms_are, known_pos, known_neg}
use Rattle.asp_template.proofs.RuleInstances.{known_atom, KnownBody, known_body, KnownParts, disjunctive_known, parts_of, Ranked, KnownRule, bound_written, body_found, bound_found}
use Rattle.asp_ground.proofs.BoundAtoms.{fewer_variables}

-- ---- what is known of an element

record KnownElement (v : Vocabulary) (body : List Literal) (e : Element) : Type 0 where
  atom : KnownAtom v (bound_variables body e) e.atom
  cond : (l : Literal) → IsIn l e.cond → KnownLiteral v (bound_variables body e) l

known_element : (v : Vocabulary) (low : Option ℤ) (elements : List Element) (high : Option ℤ) (body : List Literal) (e : Element) → IsIn e elements → KnownParts v (Choice low elements high) body → KnownElement v body e
known_element v low elements high body e i known =
    let parts : (is_single_atom e.atom ≡ true) × (list_all is_single_literal e.cond ≡ true) =
    both (is_single_atom e.atom) (list_all is_single_literal e.cond) (all_at is_single_element elements e known.single.0 i) in
    record { atom = of_atom parts.0; cond = λ l j. known_body v (bound_written body e) e.cond (of_cond parts.1) l j }
  where
    in_constants : (c : Const) → IsIn c (element_constants e) → IsIn c v.constants
    in_constants c j = known.constants c (append_left (flat_map element_constants elements) (flat_map literal_constants body) c (flat_from element_constants elements e c i j))

    in_predicates : (q : Predicate) → IsIn q (element_predicates e) → IsIn q (map unnumbered v.predicates)
    in_predicates q j = known.predicates q (append_left (flat_map element_predicates elements) (flat_map literal_predicates body) q (flat_from element_predicates elements e q i j))

    of_atom : is_single_atom e.atom ≡ true → KnownAtom v (first_occurrences (bound_written body e)) e.atom
    of_atom single = known_atom v (bound_written body e) e.atom (record {
      known = λ c j. in_constants c (append_left (atom_constants e.atom) (flat_map literal_constants e.cond) c j);
      within = λ w j. append_right (flat_map literal_variables body) (atom_variables e.atom ++ flat_map literal_variables e.cond) w (append_left (atom_variables e.atom) (flat_map literal_variables e.cond) w j);
    }) (in_predicates (atom_predicate e.atom) (inl refl)) single

    of_cond : list_all is_single_literal e.cond ≡ true → KnownBody v (bound_written body e) e.cond
    of_cond single = record {
      constants = λ c j. in_constants c (append_right (atom_constants e.atom) (flat_map literal_constants e.cond) c j);
      predicates = λ q j. in_predicates q (inr j);
      variables = λ w j. append_right (flat_map literal_variables body) (atom_variables e.atom ++ flat_map literal_variables e.cond) w (append_right (atom_variables e.atom) (flat_map literal_variables e.cond) w j);
      single = single;
    }

-- ---- a counted term

abbrev make_terms : Bool → ℕ → List ℕ → List ℕ → List Counted
make_terms passes atom positive negative = if passes then record { atom = atom; pos = positive; neg = negative } ∷ [] else []

abbrev numbers_under : List GroundAtom → Vocabulary → List Term → List ℕ → List Atom → List ℕ
numbers_under atoms v variables ranks written =
    map (λ (a : Atom). atom_number atoms (atom_instance variables (map (const_at v.constants) ranks) a)) written

abbrev reckoned : Vocabulary → List Term → List ℕ → List Atom → List ℕ
reckoned v variables ranks written =
    map (number_at (capped (length v.constants)) ranks) (map (atom_template v variables) written)

abbrev passes_at : Vocabulary → List Term → List ℕ → List Literal → Bool
passes_at v variables ranks literals = list_all (is_true ranks) (flat_map (comparisons_of v.constants variables) literals)

-- an element's template with these variables
abbrev template_with : Vocabulary → Element → List Term → ℕ → ElementTemplate
template_with v e variables own = record { own = own; atom = atom_template v variables e.atom; cond = compiled v variables false [] e.cond }

module _ (atoms : List GroundAtom) (v : Vocabulary) (n : Numbers atoms v) where
  term_is : (body : List Literal) (e : Element) (ranks : List ℕ) (own : ℕ) → Fits v (bound_variables body e) ranks → KnownElement v body e → counted_instance atoms (bound_variables body e) e (map (const_at v.constants) ranks) ≡ term_at (capped (length v.constants)) (template_with v e (bound_variables body e) own) ranks
  term_is body e ranks own fits known =
      let vars = bound_variables body e in
      ap (λ passes. make_terms passes (atom_number atoms (atom_instance vars (map (const_at v.constants) ranks) e.atom)) (numbers_under atoms v vars ranks (flat_map pos_atoms e.cond)) (numbers_under atoms v vars ranks (flat_map neg_atoms e.cond)))
      (comparisons_are atoms v vars ranks e.cond n fits known.cond)
      ∙ (ap (λ atom. make_terms (passes_at v vars ranks e.cond) atom (numbers_under atoms v vars ranks (flat_map pos_atoms e.cond)) (numbers_under atoms v vars ranks (flat_map neg_atoms e.cond)))
      (sym (atom_is atoms v vars ranks e.atom n fits.same fits.below known.atom))
      ∙ (ap (λ positive. make_terms (passes_at v vars ranks e.cond) (number_at (capped (length v.constants)) ranks (atom_template v vars e.atom)) positive (numbers_under atoms v vars ranks (flat_map neg_atoms e.cond)))
      (atoms_are atoms v vars ranks (flat_map pos_atoms e.cond) n fits (known_pos v vars e.cond known.cond))
      ∙ ap (λ negative. make_terms (passes_at v vars ranks e.cond) (number_at (capped (length v.constants)) ranks (atom_template v vars e.atom)) (reckoned v vars ranks (flat_map pos_atoms e.cond)) negative)
      (atoms_are atoms v vars ranks (flat_map neg_atoms e.cond) n fits (known_neg v vars e.cond known.cond))))

  module _ (U : List Const) (universe : List ℕ) (ranked : Ranked v U universe) where
    -- ranks of a product over the universe
    ranks_below : (count : ℕ) (tuple : List ℕ) → IsIn tuple (product (replicate count universe)) → (rank : ℕ) → IsIn rank tuple → rank < length v.constants
    ranks_below count tuple i rank j =
        let from = tuple_member (replicate count universe) tuple rank i j in
        ranked.below rank (subst (λ (xs : List ℕ). IsIn rank xs) (in_replicate count universe from.0 from.1) from.2)

    ranks_long : (count : ℕ) (tuple : List ℕ) → IsIn tuple (product (replicate count universe)) → length tuple ≡ count
    ranks_long count tuple i = tuple_length (replicate count universe) tuple i ∙ length-replicate count universe

    -- a product over the universe's constants is that over its ranks
    over_ranks : {A : Type 0} (f : List Const → List A) (count : ℕ) → flat_map f (product (replicate count U)) ≡ flat_map (λ tuple. f (map (const_at v.constants) tuple)) (product (replicate count universe))
    over_ranks f count =
        ap (λ V. flat_map f (product (replicate count V))) ranked.same
        ∙ (ap (λ xss. flat_map f (product xss)) (sym (replicate_map (map (const_at v.constants)) count universe))
        ∙ (ap (flat_map f) (product_map (const_at v.constants) (replicate count universe))
        ∙ flat_map_map f (map (const_at v.constants)) (product (replicate count universe))))

    terms_are : (body : List Literal) (e : Element) (ranks : List ℕ) → IsIn ranks (product (replicate (length (body_variables body)) universe)) → KnownElement v body e → element_terms atoms U body (map (const_at v.constants) ranks) e ≡ terms_at (capped (length v.constants)) universe ranks (template_with v e (bound_variables body e) (own_count body e))
    terms_are body e ranks i known =
        over_ranks (λ own. counted_instance atoms (bound_variables body e) e (map (const_at v.constants) ranks ++ own)) (own_count body e)
        ∙ flat_map_agrees (λ own. counted_instance atoms (bound_variables body e) e (map (const_at v.constants) ranks ++ map (const_at v.constants) own))
        (λ own. term_at (capped (length v.constants)) (template_with v e (bound_variables body e) (own_count body e)) (ranks ++ own))
        (product (replicate (own_count body e) universe))
        (λ own j.
        ap (counted_instance atoms (bound_variables body e) e) (sym (map-append (const_at v.constants) ranks own))
        ∙ term_is body e (ranks ++ own) (own_count body e) (fits own j) known)
      where
        fits : (own : List ℕ) → IsIn own (product (replicate (own_count body e) universe)) → Fits v (bound_variables body e) (ranks ++ own)
        fits own j = record {
          same =
              let first = ranks_long (length (body_variables body)) ranks i in
              let second = ranks_long (own_count body e) own j in
              let fewer = fewer_variables body e in
              let whole = length-append ranks own in
              omega (arith, first, second, fewer, whole);
          below = λ rank k. elim (append_at ranks own rank k) [
            | inl h ↦ ranks_below (length (body_variables body)) ranks i rank h
            | inr h ↦ ranks_below (own_count body e) own j rank h
          ];
        }

    -- ---- a ground bound

    abbrev make_bounds : Bool → List ℕ → List ℕ → Option ℤ → Option ℤ → List Counted → List Bound
    make_bounds passes positive negative low high terms =
        if passes then record { pos = positive; neg = negative; low = low; high = high; counted = terms } ∷ [] else []

    abbrev templates_with : List Literal → List Element → List ElementTemplate
    templates_with body elements = map (λ e. template_with v e (bound_variables body e) (own_count body e)) elements

    abbrev bound_with : Option ℤ → Option ℤ → List Literal → List Term → List ElementTemplate → BoundTemplate
    bound_with low high body variables elements =
        record { body = compiled v variables false [] body; low = low; high = high; elements = elements }

    instance_is : (low : Option ℤ) (elements : List Element) (high : Option ℤ) (body : List Literal) (ranks : List ℕ) → IsIn ranks (product (replicate (length (body_variables body)) universe)) → KnownParts v (Choice low elements high) body → bound_instance atoms U low elements high body (map (const_at v.constants) ranks) ≡ bound_at (capped (length v.constants)) universe (bound_with low high body (body_variables body) (templates_with body elements)) ranks
    instance_is low elements high body ranks i known =
        let vars = body_variables body in
        let counted = flat_map (element_terms atoms U body (map (const_at v.constants) ranks)) elements in
        ap (λ passes. make_bounds passes (numbers_under atoms v vars ranks (flat_map pos_atoms body)) (numbers_under atoms v vars ranks (flat_map neg_atoms body)) low high counted)
        (comparisons_are atoms v vars ranks body n fits of_body.body)
        ∙ (ap (λ positive. make_bounds (passes_at v vars ranks body) positive (numbers_under atoms v vars ranks (flat_map neg_atoms body)) low high counted)
        (atoms_are atoms v vars ranks (flat_map pos_atoms body) n fits (known_pos v vars body of_body.body))
        ∙ (ap (λ negative. make_bounds (passes_at v vars ranks body) (reckoned v vars ranks (flat_map pos_atoms body)) negative low high counted)
        (atoms_are atoms v vars ranks (flat_map neg_atoms body) n fits (known_neg v vars body of_body.body))
        ∙ ap (make_bounds (passes_at v vars ranks body) (reckoned v vars ranks (flat_map pos_atoms body)) (reckoned v vars ranks (flat_map neg_atoms body)) low high)
        (flat_map_agrees (element_terms atoms U body (map (const_at v.constants) ranks))
        (λ e. terms_at (capped (length v.constants)) universe ranks (template_with v e (bound_variables body e) (own_count body e))) elements
        (λ e j. terms_are body e ranks i (known_element v low elements high body e j known))
        ∙ sym (flat_map_map (terms_at (capped (length v.constants)) universe ranks) (λ e. template_with v e (bound_variables body e) (own_count body e)) elements))))
      where
        fits : Fits v (body_variables body) ranks
        fits = record {
          same = ranks_long (length (body_variables body)) ranks i;
          below = λ rank k. ranks_below (length (body_variables body)) ranks i rank k;
        }

        of_body : KnownSchema v (disjunctive_schema [] body)
        of_body = disjunctive_known v [] body (record {
          constants = λ c m. known.constants c (append_right (flat_map element_constants elements) (flat_map literal_constants body) c m);
          predicates = λ q m. known.predicates q (append_right (flat_map element_predicates elements) (flat_map literal_predicates body) q m);
          single = (refl, known.single.1);
        })

    -- ---- a rule

    -- the templates with the variables that are found
    element_is : (low : Option ℤ) (elements : List Element) (high : Option ℤ) (body : List Literal) → variable_count (make_rule (Choice low elements high) body) ≤ 16 → (e : Element) → IsIn e elements → template_with v e (bound_variables body e) (own_count body e) ≡ element_template v body e
    element_is low elements high body few e i =
        ap (λ vars. template_with v e vars (length vars - length (body_variables body))) (sym (bound_found low elements high body e i few))
        ∙ ap (λ vars. template_with v e (found_variables body e) (length (found_variables body e) - length vars)) (sym (body_found low elements high body few))

    elements_are : (low : Option ℤ) (elements : List Element) (high : Option ℤ) (body : List Literal) → variable_count (make_rule (Choice low elements high) body) ≤ 16 → (some : List Element) → ((e : Element) → IsIn e some → IsIn e elements) → templates_with body some ≡ map (element_template v body) some
    elements_are low elements high body few [] h = refl
    elements_are low elements high body few (e ∷ some) h =
        ap (λ t. t ∷ templates_with body some) (element_is low elements high body few e (h e (inl refl)))
        ∙ ap (λ ts. element_template v body e ∷ ts) (elements_are low elements high body few some (λ x i. h x (inr i)))

    choice_is : (low : Option ℤ) (elements : List Element) (high : Option ℤ) (body : List Literal) → KnownParts v (Choice low elements high) body → variable_count (make_rule (Choice low elements high) body) ≤ 16 → flat_map (bound_instance atoms U low elements high body) (product (replicate (length (body_variables body)) U)) ≡ choice_bounds v universe low elements high body
    choice_is low elements high body known few =
        over_ranks (bound_instance atoms U low elements high body) (length (body_variables body))
        ∙ (flat_map_agrees (λ ranks. bound_instance atoms U low elements high body (map (const_at v.constants) ranks))
        (bound_at (capped (length v.constants)) universe (bound_with low high body (body_variables body) (templates_with body elements)))
        (product (replicate (length (body_variables body)) universe))
        (λ ranks i. instance_is low elements high body ranks i known)
        ∙ (ap (λ ts. bounds_over (capped (length v.constants)) universe (bound_with low high body (body_variables body) ts) (length (body_variables body)))
        (elements_are low elements high body few elements (λ e i. i))
        ∙ ap (λ vars. bounds_over (capped (length v.constants)) universe (bound_with low high body vars (map (element_template v body) elements)) (length vars))
        (sym (body_found low elements high body few))))

    head_is : (head : Head) (body : List Literal) → KnownRule v head body → head_bounds atoms U head body ≡ head_bounds_by v universe head body
    head_is (Disj heads) body known = refl
    head_is (Choice low elements high) body known =
        ap (λ (bounds : List Bound). if has_bound (Choice low elements high) then bounds else [])
        (choice_is low elements high body (parts_of v (Choice low elements high) body known known.intervals) known.few)

    pub bounds_are : (r : Rule) → KnownRule v r.head r.body → rule_bounds atoms U r ≡ compiled_bounds v universe r
    bounds_are r known = head_is r.head r.body known
