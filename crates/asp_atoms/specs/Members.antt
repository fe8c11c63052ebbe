-- The numbers of the atoms of levels, by the numbers of the last level's predicates.
use Rattle.std.specs.Prelude.{ℕ, Bool, is_some, position, ◌+◌, ◌^◌, ◌≤◌, ◌<◌, List, [], ◌∷◌}
use Rattle.std.specs.List.{flat_map, filter}
use Rattle.std.specs.Ordering.{is_eq}
use Rattle.asp_defs.specs.declared.faults.Which.TheVariants.{Atoms}
use Rattle.asp_defs.specs.Lists.{IsIn}
use Rattle.asp_defs.specs.Limits.{limit}
use Rattle.asp_defs.specs.Bases.{Predicate, predicate_cmp}
use Rattle.asp_atoms.specs.declared.vocabularies.NumberedPredicate.{NumberedPredicate}
use Rattle.asp_atoms.specs.Vocabularies.{unnumbered}
use Rattle.asp_atoms.specs.Tuples.{numbers_of}

-- whether a predicate is one of a list
abbrev pub is_predicate_of : List Predicate → Predicate → Bool
is_predicate_of ps q = is_some (position (λ p. is_eq (predicate_cmp q p)) ps)

-- the numbers of the atoms of a level over constants of these ranks: those of its predicates, which are some of the last
-- level's
abbrev pub predicate_numbers : ℕ → List ℕ → NumberedPredicate → List ℕ
predicate_numbers base ranks q = numbers_of q.first base ranks q.arity

abbrev pub level_numbers : ℕ → List NumberedPredicate → List ℕ → List Predicate → List ℕ
level_numbers base qs ranks ps =
    flat_map (predicate_numbers base ranks) (filter (λ q. is_predicate_of ps (unnumbered q)) qs)

-- the same for level after level
abbrev pub levels_numbers : ℕ → List NumberedPredicate → List (List ℕ) → List (List Predicate) → List (List ℕ)
levels_numbers base qs [] pss = []
levels_numbers base qs (ranks ∷ more) [] = []
levels_numbers base qs (ranks ∷ more) (ps ∷ pss) = level_numbers base qs ranks ps ∷ levels_numbers base qs more pss

-- the numbers of the atoms of predicates are those of few atoms
abbrev pub AreSmall : ℕ → List NumberedPredicate → Type 0
AreSmall base qs = (q : NumberedPredicate) → IsIn q qs → q.first + base ^ q.arity ≤ limit Atoms

-- ranks are those of so many constants
abbrev pub AreRanks : ℕ → List ℕ → Type 0
AreRanks base ranks = (rank : ℕ) → IsIn rank ranks → rank < base
