-- The predicates of levels.
use Rattle.std.specs.Prelude.{ℕ, List, map, take}
use Rattle.std.specs.List.{flat_map}
use Rattle.asp_defs.specs.declared.syntax.Rule.{Rule}
use Rattle.asp_defs.specs.Bases.{Predicate, predicate_cmp, rule_predicates}
use Rattle.asp_defs.specs.Constants.{distinct}
use Rattle.asp_atoms.specs.declared.signatures.Signature.{Signature}

-- a predicate without where its name lies in memory
abbrev pub predicate_of : Signature → Predicate
predicate_of s = record { name = s.name.now; arity = s.arity }

abbrev pub predicates_of : List Signature → List Predicate
predicates_of = map predicate_of

-- the predicates of so many of the first levels, ascending
abbrev pub predicates_to : List (List Rule) → ℕ → List Predicate
predicates_to levels i = distinct predicate_cmp (flat_map rule_predicates (flat_map (λ rules. rules) (take i levels)))
