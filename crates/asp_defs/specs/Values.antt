-- Moves of a level, and the value of a move: the recursion over the levels by which coherence is defined (Amendola,
-- Ricca and Truszczynski 2019). All definitions are transparent.
use Rattle.std.specs.Prelude.{ℕ, ◌+◌, ◌-◌, Bool, false, not, List, [], ◌∷◌, ◌++◌, map, drop}
use Rattle.std.specs.List.{list_any, list_all, filter}
use Rattle.asp_defs.specs.declared.ground.GroundRule.{GroundRule}
use Rattle.asp_defs.specs.declared.ground.Game.{Game}
use Rattle.asp_defs.specs.declared.syntax.Quant.{Quant}
use Rattle.asp_defs.specs.declared.syntax.Quant.TheVariants.{Exists, Forall}
use Rattle.asp_defs.specs.Interpretations.{holds}
use Rattle.asp_defs.specs.AnswerSets.{answer_sets}
use Rattle.asp_defs.specs.Games.{base, rules_of, bounds_of}
use Rattle.asp_defs.specs.Lists.{is_empty}

-- the fact and the denial of an atom
abbrev pub fact : ℕ → GroundRule
fact a = record { choice = false; head = a ∷ []; pos = []; neg = [] }

abbrev pub denial : ℕ → GroundRule
denial a = record { choice = false; head = []; pos = a ∷ []; neg = [] }

-- the rules that fix an interpretation over a base: a fact for each atom that is true in it, and a constraint against
-- each atom of the base that isn't
abbrev pub fix : List ℕ → List ℕ → List GroundRule
fix B M = map fact M ++ map denial (filter (λ a. not (holds M a)) B)

-- the moves of a level after an outer move: the answer sets of the level's rules and bounds with the outer move fixed
abbrev pub moves : Game → ℕ → List ℕ → List (List ℕ)
moves g i M = answer_sets (rules_of g i ++ fix (base g (i - 1)) M) (bounds_of g i) (base g i)

-- whether a quantifier's claim holds of the moves: of some, or of every one
abbrev pub claims : Quant → (List ℕ → Bool) → List (List ℕ) → Bool
claims Exists test sets = list_any test sets
claims Forall test sets = list_all test sets

-- the value of an outer move, where the levels from this one on have these quantifiers: behind the last level, whether
-- the constraint part has an answer set
abbrev pub value_from : Game → List Quant → ℕ → List ℕ → Bool
value_from g [] i M = not (is_empty (moves g i M))
value_from g (q ∷ qs) i M = claims q (value_from g qs (i + 1)) (moves g i M)

-- the value of an outer move at a level from 1 to n + 1
abbrev pub value : Game → ℕ → List ℕ → Bool
value g i M = value_from g (drop (i - 1) g.quants) i M

-- whether a game is coherent
abbrev pub is_coherent : Game → Bool
is_coherent g = value g 1 []

-- the quantified answer sets of a game whose first level is existential, in the order of interpretations: the moves of
-- level 1 whose value at level 2 is true
abbrev pub quantified_answer_sets : Game → List (List ℕ)
quantified_answer_sets g = filter (value g 2) (moves g 1 [])
