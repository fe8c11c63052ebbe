-- Strong negation: an atom and its negation are two atoms, of which no interpretation has both (Gelfond and Lifschitz 1991).
-- Here constraints say so. All definitions are transparent.
use Rattle.std.specs.Prelude.{ℕ, Bool, List, [], ◌∷◌, ◌++◌, map, codes}
use Rattle.std.specs.List.{filter, list_any}
use Rattle.std.specs.Ordering.{is_eq}
use Rattle.asp_defs.specs.declared.syntax.Term.TheVariants.{Anon}
use Rattle.asp_defs.specs.declared.syntax.Atom.{Atom}
use Rattle.asp_defs.specs.declared.syntax.Literal.TheVariants.{Pos}
use Rattle.asp_defs.specs.declared.syntax.Head.TheVariants.{Disj}
use Rattle.asp_defs.specs.declared.syntax.Rule.{Rule}
use Rattle.asp_defs.specs.declared.syntax.Program.{Program}
use Rattle.asp_defs.specs.Lists.{numbers_from}
use Rattle.asp_defs.specs.Bases.{Predicate, predicate_cmp, predicates}

-- the name of a strong negation: a minus, and then the name
abbrev pub negated_name : List ℕ → List ℕ
negated_name name = codes "-" ++ name

abbrev pub negated : Predicate → Predicate
negated q = record { name = negated_name q.name; arity = q.arity }

-- whether a predicate is one of a list
abbrev pub has_predicate : List Predicate → Predicate → Bool
has_predicate qs q = list_any (λ r. is_eq (predicate_cmp q r)) qs

-- the predicates of a list whose negations are in it
abbrev pub contradicted : List Predicate → List Predicate
contradicted qs = filter (λ q. has_predicate qs (negated q)) qs

-- an atom with a variable for each argument
abbrev pub general_atom : List ℕ → ℕ → Atom
general_atom name arity = record { name = name; args = map Anon (numbers_from 1 arity) }

-- the constraint that no atom of a predicate and its negation are both true
abbrev pub consistency_constraint : Predicate → Rule
consistency_constraint q = record {
  head = Disj [];
  body = Pos (general_atom q.name q.arity) ∷ Pos (general_atom (negated_name q.name) q.arity) ∷ [];
}

-- the consistency constraints of a level: one for each of its predicates whose negation it has too, ascending
abbrev pub consistency_constraints : Program → ℕ → List Rule
consistency_constraints p i = map consistency_constraint (contradicted (predicates p i))
