-- The vocabulary of a program: its constants, and its predicates with the numbers of their first atoms.
use Rattle.std.specs.Prelude.{ℕ, ◌+◌, ◌^◌, List, [], ◌∷◌, map, length}
use Rattle.asp_defs.specs.declared.ground.Const.{Const}
use Rattle.asp_defs.specs.declared.syntax.Program.{Program}
use Rattle.asp_defs.specs.Constants.{const_cmp, universe}
use Rattle.asp_defs.specs.Bases.{Predicate, predicates, last_level}
use Rattle.asp_defs.specs.Lists.{numbers_from}
use Rattle.asp_defs.specs.Sizes.{atom_total}
use Rattle.asp_atoms.specs.declared.vocabularies.NumberedPredicate.{NumberedPredicate}
use Rattle.asp_atoms.specs.declared.vocabularies.Vocabulary.{Vocabulary}
use Rattle.asp_atoms.specs.Ascending.{place_in}

-- a constant's rank: its place in an ascending list of constants
abbrev pub const_rank : List Const → Const → ℕ
const_rank constants c = place_in const_cmp constants c

-- a predicate without a number
abbrev pub unnumbered : NumberedPredicate → Predicate
unnumbered q = record { name = q.name; arity = q.arity }

-- a predicate with the number of its first atom
abbrev pub with_number : ℕ → Predicate → NumberedPredicate
with_number first q = record { name = q.name; arity = q.arity; first = first }

-- predicates over so many constants, each with the number of its first atom, where so many atoms come before them: a
-- predicate has as many atoms as there are tuples of as many constants as it has arguments
abbrev pub numbered_from : ℕ → ℕ → List Predicate → List NumberedPredicate
numbered_from size first [] = []
numbered_from size first (q ∷ qs) = with_number first q ∷ numbered_from size (first + size ^ q.arity) qs

-- the vocabulary of constants, of the universes of levels, and of predicates with so many atoms
abbrev pub vocabulary_from : List Const → List (List Const) → List Predicate → ℕ → Vocabulary
vocabulary_from constants universes qs atoms = record {
  constants = constants;
  universes = map (map (const_rank constants)) universes;
  predicates = numbered_from (length constants) 0 qs;
  atoms = atoms;
}

-- the vocabulary of a program
abbrev pub vocabulary_of : Program → Vocabulary
vocabulary_of p =
    let constants = universe p (last_level p)
    in record {
      constants = constants;
      universes = map (λ i. map (const_rank constants) (universe p i)) (numbers_from 0 (last_level p + 1));
      predicates = numbered_from (length constants) 0 (predicates p (last_level p));
      atoms = atom_total p;
    }
