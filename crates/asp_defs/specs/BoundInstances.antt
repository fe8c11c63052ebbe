-- The ground bounds of a choice with a bound: one for each instance of its body, which counts the instances of its elements
-- (of this project). All definitions are transparent.
use Rattle.std.specs.Prelude.{ℕ, ℤ, ◌-◌, if◌then◌else◌, List, [], ◌∷◌, ◌++◌, map, length, replicate, Option}
use Rattle.std.specs.List.{flat_map, list_all}
use Rattle.asp_defs.specs.declared.ground.Const.{Const}
use Rattle.asp_defs.specs.declared.ground.GroundAtom.{GroundAtom}
use Rattle.asp_defs.specs.declared.ground.Counted.{Counted}
use Rattle.asp_defs.specs.declared.ground.Bound.{Bound}
use Rattle.asp_defs.specs.declared.syntax.Term.{Term}
use Rattle.asp_defs.specs.declared.syntax.Atom.{Atom}
use Rattle.asp_defs.specs.declared.syntax.Literal.{Literal}
use Rattle.asp_defs.specs.declared.syntax.Element.{Element}
use Rattle.asp_defs.specs.declared.syntax.Head.{Head}
use Rattle.asp_defs.specs.declared.syntax.Head.TheVariants.{Disj, Choice}
use Rattle.asp_defs.specs.declared.syntax.Rule.{Rule}
use Rattle.asp_defs.specs.Bases.{product, atom_number}
use Rattle.asp_defs.specs.Instances.{atom_variables, literal_variables, first_occurrences, atom_instance, comparison_true, pos_atoms, neg_atoms, body_variables, has_bound}

-- the variables of a body, and behind them those that an element has of its own, in the order of the text
abbrev pub bound_variables : List Literal → Element → List Term
bound_variables body e =
    first_occurrences (flat_map literal_variables body ++ (atom_variables e.atom ++ flat_map literal_variables e.cond))

-- how many an element has of its own
abbrev pub own_count : List Literal → Element → ℕ
own_count body e = length (bound_variables body e) - length (body_variables body)

-- the counted term of an element under values of the variables: none where a comparison of its condition is false
abbrev pub counted_instance : List GroundAtom → List Term → Element → List Const → List Counted
counted_instance atoms variables e values =
    let number = λ (a : Atom). atom_number atoms (atom_instance variables values a)
    in if list_all (comparison_true variables values) e.cond
    then record {
      atom = number e.atom;
      pos = map number (flat_map pos_atoms e.cond);
      neg = map number (flat_map neg_atoms e.cond);
    } ∷ []
    else []

-- the counted terms of an element under values of the body's variables, where its own run through a universe
abbrev pub element_terms : List GroundAtom → List Const → List Literal → List Const → Element → List Counted
element_terms atoms U body values e =
    flat_map (λ own. counted_instance atoms (bound_variables body e) e (values ++ own))
    (product (replicate (own_count body e) U))

-- the ground bound of a choice under values of its body's variables: none where a comparison of the body is false
abbrev pub bound_instance : List GroundAtom → List Const → Option ℤ → List Element → Option ℤ → List Literal → List Const → List Bound
bound_instance atoms U low elements high body values =
    let number = λ (a : Atom). atom_number atoms (atom_instance (body_variables body) values a)
    in if list_all (comparison_true (body_variables body) values) body
    then record {
      pos = map number (flat_map pos_atoms body);
      neg = map number (flat_map neg_atoms body);
      low = low;
      high = high;
      counted = flat_map (element_terms atoms U body values) elements;
    } ∷ []
    else []

-- the ground bounds of a head with a body, and of a rule, over a universe, the last variable of the body running fastest
abbrev pub head_bounds : List GroundAtom → List Const → Head → List Literal → List Bound
head_bounds atoms U (Disj heads) body = []
head_bounds atoms U (Choice low elements high) body =
    if has_bound (Choice low elements high)
    then flat_map (bound_instance atoms U low elements high body) (product (replicate (length (body_variables body)) U))
    else []

abbrev pub rule_bounds : List GroundAtom → List Const → Rule → List Bound
rule_bounds atoms U r = head_bounds atoms U r.head r.body
