-- The safe ones of an element's variables, by its condition, the body's safe variables and the body's representatives.
use Rattle.std.proofs.Common.{◌≡◌, ◌⊎◌, refl, sym, ◌∙◌, ap, subst, inl, inr, Bool, true, false, List, [], ◌++◌, Option, Some, None}
use Rattle.std.specs.List.{flat_map, filter}
use Rattle.asp_defs.specs.declared.syntax.Term.{Term}
use Rattle.asp_defs.specs.declared.syntax.Literal.{Literal}
use Rattle.asp_defs.specs.Lists.{IsIn}
use Rattle.asp_defs.specs.Instances.{same_variable, literal_variables}
use Rattle.asp_defs.specs.Safety.{is_variable_of, safe_variables}
use Rattle.asp_defs.specs.TextLaws.{IsClosed}
use Rattle.asp_defs.proofs.Lists.{filter_at, filter_from, append_at, append_left, append_right, map_at}
use Rattle.asp_defs.proofs.SafetyLaws.{safe_variables_are_least}
use Rattle.asp_defs.proofs.TextRefutations.{clash}
use Rattle.asp_safety.specs.declared.variable.Variable.{Variable}
use Rattle.asp_safety.specs.Variables.{term_of, terms_of}
use Rattle.asp_safety.specs.Bindings.{bound_alone, literal_links}
use Rattle.asp_safety.specs.Closure.{Within, IsSpread, IsLeast}
use Rattle.asp_safety.specs.Representatives.{AreJoined, representative_of, RepresentAll, between, representative_links}
use Rattle.asp_safety.specs.Safe.{Agree, AgreeOn}
use Rattle.asp_safety.proofs.Members.{member_at, member_from, test_more, same_truth}
use Rattle.asp_walk.proofs.Lists.{flat_at, flat_from}
use Rattle.asp_safety.proofs.Representing.{representative_itself}
use Rattle.asp_safety.proofs.Safe.{closed_from, spread_from, closed_left, closed_right, closed_both, variable_self, bound_own, source_own, target_own}

-- what an element's own variables have of the body, and what its condition binds by itself
abbrev bound_beside : List Literal → List Term → List Term → List Term
bound_beside more some safe = flat_map bound_alone more ++ filter (is_variable_of safe) some

-- the links of the condition, and those between the element's variables and their representatives
abbrev links_beside : List Literal → List Term → List (Variable × Variable) → List (Term × Term)
links_beside more some entries = flat_map literal_links more ++ flat_map (representative_links entries) some

-- a link between a variable and its representative, in either direction
between_at : (v : Term) (o : Option Term) (x y : Term) → IsIn (x, y) (between v o) → (r : Term) × (o ≡ Some r) × (((x ≡ v) × (y ≡ r)) ⊎ ((x ≡ r) × (y ≡ v)))
between_at v None x y i = absurd i
between_at v (Some r) x y (inl e) = (r, refl, inl (ap (λ (p : Term × Term). p.0) e, ap (λ (p : Term × Term). p.1) e))
between_at v (Some r) x y (inr (inl e)) = (r, refl, inr (ap (λ (p : Term × Term). p.0) e, ap (λ (p : Term × Term). p.1) e))
between_at v (Some r) x y (inr (inr i)) = absurd i

to_representative : (v r : Term) (o : Option Term) → o ≡ Some r → IsIn (v, r) (between v o)
to_representative v r o e = subst (λ (p : Option Term). IsIn {A = Term × Term} (v, r) (between v p)) (sym e) (inl refl)

from_representative : (v r : Term) (o : Option Term) → o ≡ Some r → IsIn (r, v) (between v o)
from_representative v r o e = subst (λ (p : Option Term). IsIn {A = Term × Term} (r, v) (between v p)) (sym e) (inr (inl refl))

-- ---- what is found is safe

beside_up : (body more : List Literal) (vars : List Variable) (safe S : List Term) (entries : List (Variable × Variable)) → Agree safe (safe_variables body) → RepresentAll (flat_map literal_links body) entries → IsLeast (bound_beside more (terms_of vars) safe) (links_beside more (terms_of vars) entries) S → Within S (safe_variables (body ++ more))
beside_up body more vars safe S entries agree representatives least =
    least.least (safe_variables (body ++ more)) (record {
      has = λ v i. elim (append_at (flat_map bound_alone more) (filter (is_variable_of safe) (terms_of vars)) v i) [
        | inl h ↦ (alone).has v h
        | inr h ↦
            (safe_variables_are_least body).1 (safe_variables (body ++ more)) (closed_left body more (safe_variables (body ++ more)) law) v
            (member_at (safe_variables body) v (sym (agree v) ∙ (filter_at (is_variable_of safe) (terms_of vars) v h).1))
      ];
      goes = λ u v l i. elim (append_at (flat_map literal_links more) (flat_map (representative_links entries) (terms_of vars)) (u, v) l) [
        | inl h ↦ (alone).goes u v h i
        | inr h ↦ represented u v h i
      ];
    })
  where
    law : IsClosed (body ++ more) (safe_variables (body ++ more))
    law = (safe_variables_are_least (body ++ more)).0

    alone : IsSpread (flat_map bound_alone more) (flat_map literal_links more) (safe_variables (body ++ more))
    alone = spread_from more (safe_variables (body ++ more)) (closed_right body more (safe_variables (body ++ more)) law)

    around : IsSpread [] (flat_map literal_links body) (safe_variables (body ++ more))
    around = record {
      has = λ v i. absurd i;
      goes = (spread_from body (safe_variables (body ++ more)) (closed_left body more (safe_variables (body ++ more)) law)).goes;
    }

    joined : (v r : Term) → IsIn v (terms_of vars) → representative_of entries v ≡ Some r → AreJoined (flat_map literal_links body) v r
    joined v r i e =
        let own = map_at term_of vars v i in
        subst (λ w. AreJoined (flat_map literal_links body) w r) (sym own.2)
        (representatives.represent.joined own.0 r (subst (λ w. representative_of entries w ≡ Some r) own.2 e))

    represented : (u v : Term) → IsIn (u, v) (flat_map (representative_links entries) (terms_of vars)) → IsIn u (safe_variables (body ++ more)) → IsIn v (safe_variables (body ++ more))
    represented u v h i =
        let found = flat_at (representative_links entries) (terms_of vars) (u, v) h in
        let b = between_at found.0 (representative_of entries found.0) u v found.2 in
        let pair = joined found.0 b.0 found.1 b.1 in
        elim b.2 [
          | inl e ↦ subst (λ w. IsIn w (safe_variables (body ++ more))) (sym e.1) (pair.there (safe_variables (body ++ more)) around (subst (λ w. IsIn w (safe_variables (body ++ more))) e.0 i))
          | inr e ↦ subst (λ w. IsIn w (safe_variables (body ++ more))) (sym e.1) (pair.back (safe_variables (body ++ more)) around (subst (λ w. IsIn w (safe_variables (body ++ more))) e.0 i))
        ]

-- ---- what is safe is found

-- whether a representative is found
abbrev is_found : List Term → Option Term → Bool
is_found S None = false
is_found S (Some r) = is_variable_of S r

is_found_at : (S : List Term) (o : Option Term) → is_found S o ≡ true → (r : Term) × (o ≡ Some r) × IsIn r S
is_found_at S None h = clash h
is_found_at S (Some r) h = (r, refl, member_at S r h)

is_found_from : (S : List Term) (o : Option Term) (r : Term) → o ≡ Some r → same_variable r r ≡ true → IsIn r S → is_found S o ≡ true
is_found_from S o r e same i = ap (is_found S) e ∙ member_from S r same i

-- the body's variables whose representatives are found
abbrev represented_by : List (Variable × Variable) → List Term → List Literal → List Term
represented_by entries S body = filter (λ w. is_found S (representative_of entries w)) (flat_map literal_variables body)

-- the body's safe variables, what is found of the element's own, and the body's variables whose representatives are found
abbrev brought : List Literal → List Term → List (Variable × Variable) → List Term → List Term
brought body some entries S = safe_variables body ++ (filter (is_variable_of S) some ++ represented_by entries S body)

beside_down : (body more : List Literal) (vars : List Variable) (safe S : List Term) (entries : List (Variable × Variable)) → Agree safe (safe_variables body) → RepresentAll (flat_map literal_links body) entries → Within (flat_map literal_variables more) (terms_of vars) → IsLeast (bound_beside more (terms_of vars) safe) (links_beside more (terms_of vars) entries) S → (v : Term) → IsIn v (terms_of vars) → IsIn v (safe_variables (body ++ more)) → IsIn v S
beside_down body more vars safe S entries agree representatives own least v i h =
    found v i
    ((safe_variables_are_least (body ++ more)).1 (brought body (terms_of vars) entries S)
    (closed_both body more (brought body (terms_of vars) entries S) body_closed more_closed) v h)
  where
    in_safe : (u : Term) → IsIn u (safe_variables body) → IsIn u (brought body (terms_of vars) entries S)
    in_safe u j = append_left (safe_variables body) (filter (is_variable_of S) (terms_of vars) ++ represented_by entries S body) u j

    in_own : (u : Term) → IsIn u (terms_of vars) → IsIn u S → IsIn u (brought body (terms_of vars) entries S)
    in_own u j k =
        append_right (safe_variables body) (filter (is_variable_of S) (terms_of vars) ++ represented_by entries S body) u
        (append_left (filter (is_variable_of S) (terms_of vars)) (represented_by entries S body) u
        (filter_from (is_variable_of S) (terms_of vars) u j (member_from S u (variable_self vars u j) k)))

    in_represented : (u : Term) → IsIn u (flat_map literal_variables body) → is_found S (representative_of entries u) ≡ true → IsIn u (brought body (terms_of vars) entries S)
    in_represented u j t =
        append_right (safe_variables body) (filter (is_variable_of S) (terms_of vars) ++ represented_by entries S body) u
        (append_right (filter (is_variable_of S) (terms_of vars)) (represented_by entries S body) u
        (filter_from (λ w. is_found S (representative_of entries w)) (flat_map literal_variables body) u j t))

    -- an element's variable and its representative are found together
    goes_to : (u r : Term) → IsIn u (terms_of vars) → representative_of entries u ≡ Some r → IsIn u S → IsIn r S
    goes_to u r j e k =
        least.spread.goes u r (append_right (flat_map literal_links more) (flat_map (representative_links entries) (terms_of vars)) (u, r)
        (flat_from (representative_links entries) (terms_of vars) u (u, r) j (to_representative u r (representative_of entries u) e))) k

    comes_from : (u r : Term) → IsIn u (terms_of vars) → representative_of entries u ≡ Some r → IsIn r S → IsIn u S
    comes_from u r j e k =
        least.spread.goes r u (append_right (flat_map literal_links more) (flat_map (representative_links entries) (terms_of vars)) (r, u)
        (flat_from (representative_links entries) (terms_of vars) u (r, u) j (from_representative u r (representative_of entries u) e))) k

    common : (u : Term) → IsIn u (terms_of vars) → IsIn u (safe_variables body) → IsIn u S
    common u j k =
        least.spread.has u (append_right (flat_map bound_alone more) (filter (is_variable_of safe) (terms_of vars)) u
        (filter_from (is_variable_of safe) (terms_of vars) u j (agree u ∙ member_from (safe_variables body) u (variable_self vars u j) k)))

    represented : (u : Term) → IsIn u (terms_of vars) → IsIn u (represented_by entries S body) → IsIn u S
    represented u j k =
        let representative = is_found_at S (representative_of entries u) (filter_at (λ w. is_found S (representative_of entries w)) (flat_map literal_variables body) u k).1 in
        comes_from u representative.0 j representative.1 representative.2

    -- what is brought of the element's variables is found
    found : (u : Term) → IsIn u (terms_of vars) → IsIn u (brought body (terms_of vars) entries S) → IsIn u S
    found u j k = elim (append_at (safe_variables body) (filter (is_variable_of S) (terms_of vars) ++ represented_by entries S body) u k) [
      | inl a ↦ common u j a
      | inr b ↦ elim (append_at (filter (is_variable_of S) (terms_of vars)) (represented_by entries S body) u b) [
        | inl d ↦ member_at S u (filter_at (is_variable_of S) (terms_of vars) u d).1
        | inr d ↦ represented u j d
      ]
    ]

    inside : IsSpread (flat_map bound_alone body) (flat_map literal_links body) (safe_variables body)
    inside = spread_from body (safe_variables body) (safe_variables_are_least body).0

    -- a variable of the body that is brought otherwise than as a safe one has a representative that is found
    tested : (u w : Term) → IsIn (u, w) (flat_map literal_links body) → IsIn u (filter (is_variable_of S) (terms_of vars) ++ represented_by entries S body) → is_found S (representative_of entries u) ≡ true
    tested u w l k = elim (append_at (filter (is_variable_of S) (terms_of vars)) (represented_by entries S body) u k) [
      | inl d ↦
          let mine = filter_at (is_variable_of S) (terms_of vars) u d in
          let representative = representatives.represented u w l in
          is_found_from S (representative_of entries u) representative.0 representative.1 (representative_itself entries u representative.0 representative.1) (goes_to u representative.0 mine.0 representative.1 (member_at S u mine.1))
      | inr d ↦ (filter_at (λ x. is_found S (representative_of entries x)) (flat_map literal_variables body) u d).1
    ]

    body_goes : (u w : Term) → IsIn (u, w) (flat_map literal_links body) → IsIn u (brought body (terms_of vars) entries S) → IsIn w (brought body (terms_of vars) entries S)
    body_goes u w l k = elim (append_at (safe_variables body) (filter (is_variable_of S) (terms_of vars) ++ represented_by entries S body) u k) [
      | inl a ↦ in_safe w ((inside).goes u w l a)
      | inr b ↦ in_represented w (target_own body u w l) (ap (is_found S) (sym (representatives.represent.same u w l)) ∙ tested u w l b)
    ]

    body_closed : IsClosed body (brought body (terms_of vars) entries S)
    body_closed = closed_from body (brought body (terms_of vars) entries S) (record {
      has = λ u j. in_safe u ((inside).has u j);
      goes = body_goes;
    })

    more_closed : IsClosed more (brought body (terms_of vars) entries S)
    more_closed = closed_from more (brought body (terms_of vars) entries S) (record {
      has = λ u j.
          in_own u (own u (bound_own more u j))
          (least.spread.has u (append_left (flat_map bound_alone more) (filter (is_variable_of safe) (terms_of vars)) u j));
      goes = λ u w l k.
          in_own w (own w (target_own more u w l))
          (least.spread.goes u w (append_left (flat_map literal_links more) (flat_map (representative_links entries) (terms_of vars)) (u, w) l)
          (found u (own u (source_own more u w l)) k));
    })

pub safe_beside : (body more : List Literal) (vars : List Variable) (safe S : List Term) (entries : List (Variable × Variable)) → Agree safe (safe_variables body) → RepresentAll (flat_map literal_links body) entries → Within (flat_map literal_variables more) (terms_of vars) → IsLeast (flat_map bound_alone more ++ filter (is_variable_of safe) (terms_of vars)) (flat_map literal_links more ++ flat_map (representative_links entries) (terms_of vars)) S → AgreeOn (terms_of vars) S (safe_variables (body ++ more))
safe_beside body more vars safe S entries agree representatives own least v i =
    same_truth (is_variable_of S v) (is_variable_of (safe_variables (body ++ more)) v)
    (test_more S (safe_variables (body ++ more)) (beside_up body more vars safe S entries agree representatives least) v)
    (λ h. member_from S v (variable_self vars v i)
    (beside_down body more vars safe S entries agree representatives own least v i (member_at (safe_variables (body ++ more)) v h)))
