-- Where a constant and a predicate stand in ascending lists (of this project). All definitions are transparent.
use Rattle.std.specs.Prelude.{ℕ, min, List, get_or, map}
use Rattle.asp_defs.specs.declared.ground.Const.{Const}
use Rattle.asp_defs.specs.Constants.{const_cmp}
use Rattle.asp_defs.specs.Bases.{Predicate, predicate_cmp}
use Rattle.asp_atoms.specs.declared.vocabularies.NumberedPredicate.{NumberedPredicate}
use Rattle.asp_atoms.specs.declared.vocabularies.Vocabulary.{Vocabulary}
use Rattle.asp_atoms.specs.Ascending.{Ascends, place_in}
use Rattle.asp_atoms.specs.Vocabularies.{const_rank, unnumbered}

-- numbers end at the greatest one of 32 bits
abbrev pub capped : ℕ → ℕ
capped n = min n 4294967295

-- the rank of a constant
abbrev pub rank_of : List Const → Const → ℕ
rank_of constants c = capped (const_rank constants c)

-- the place of a predicate among predicates, or their count where it is none of them
abbrev pub predicate_place : List NumberedPredicate → Predicate → ℕ
predicate_place predicates p = place_in predicate_cmp (map unnumbered predicates) p

-- the number of a predicate's first atom
abbrev pub first_of : List NumberedPredicate → Predicate → ℕ
first_of predicates p = get_or (map (λ q. q.first) predicates) (predicate_place predicates p) 0

-- constants and predicates that can be searched by halves
pub record IsOrdered (v : Vocabulary) : Type 0 where
  pub constants : Ascends const_cmp v.constants
  pub predicates : Ascends predicate_cmp (map unnumbered v.predicates)
