-- Pages of the list of quantified answer sets (of this project). All definitions are transparent.
use Rattle.std.specs.Prelude.{ℕ, Bool, true, List, [], ◌∷◌, length, take, nat_lt, Option, None, Some}
use Rattle.std.specs.List.{filter}
use Rattle.std.specs.Ordering.{nat_cmp, is_lt}
use Rattle.std.specs.declared.cmp.Ordering.{Ordering}
use Rattle.std.specs.declared.cmp.Ordering.TheVariants.{Less, Equal, Greater}
use Rattle.asp_defs.specs.declared.ground.Game.{Game}
use Rattle.asp_defs.specs.Values.{quantified_answer_sets}

-- the order of interpretations: that one comes first in which the first atom on which they differ is false
abbrev pub set_cmp : List ℕ → List ℕ → Ordering
set_cmp [] [] = Equal
set_cmp [] (b ∷ J) = Less
set_cmp (a ∷ I) [] = Greater
set_cmp (a ∷ I) (b ∷ J) = elim (nat_cmp a b) [ Less ↦ Greater | Equal ↦ set_cmp I J | Greater ↦ Less ]

-- whether an interpretation comes strictly after another, or after none
abbrev pub comes_after : Option (List ℕ) → List ℕ → Bool
comes_after None I = true
comes_after (Some last) I = is_lt (set_cmp last I)

-- sets of a page, and whether further ones follow
pub record Page : Type 0 where
  pub sets : List (List ℕ)
  pub more : Bool

-- the first members of a list of sets, as many as asked for, and whether it is longer
abbrev pub page_from : List (List ℕ) → ℕ → Page
page_from sets count = record { sets = take count sets; more = nat_lt count (length sets) }

-- the first quantified answer sets, as many as asked for, of those that come after a set or of all
abbrev pub page_of : Game → Option (List ℕ) → ℕ → Page
page_of g after count = page_from (filter (comes_after after) (quantified_answer_sets g)) count
