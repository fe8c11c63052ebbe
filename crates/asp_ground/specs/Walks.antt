-- The predicates of a list whose negations are in another, by one walk through both (of this project). All definitions are
-- transparent.
use Rattle.std.specs.Prelude.{List, [], ◌∷◌}
use Rattle.std.specs.declared.cmp.Ordering.TheVariants.{Less, Equal, Greater}
use Rattle.asp_defs.specs.Bases.{Predicate, predicate_cmp}
use Rattle.asp_defs.specs.Consistency.{negated}

-- those of the first list, where both ascend
abbrev pub walked : List Predicate → List Predicate → List Predicate
walked [] others = []
walked (p ∷ ps) [] = []
walked (p ∷ ps) (q ∷ qs) = elim (predicate_cmp (negated p) q) [
  | Less ↦ walked ps (q ∷ qs)
  | Equal ↦ p ∷ walked ps (q ∷ qs)
  | Greater ↦ walked (p ∷ ps) qs
]
