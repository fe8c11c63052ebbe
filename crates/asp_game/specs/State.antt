-- What contracts see of the moves of a level: what is left out for good, the question, what was blocked and answered since, and
-- how often a budget was spent.
use Rattle.std.specs.Prelude.{ℕ, Bool, List, [], ◌∷◌, ◌++◌}
use Rattle.asp_defs.specs.declared.faults.Give.{Give}
use Rattle.asp_defs.specs.declared.faults.Give.TheVariants.{NoMemory}
use Rattle.asp_defs.specs.declared.ground.Game.{Game}
use Rattle.asp_defs.specs.declared.ground.Lit.{Lit}

-- the last answer: none, since there was no question; none since the question; a move; a core; or why none was given
pub data Last : Type 0 where
  Unasked : Last
  Asked : Last
  FoundMove : List ℕ → Last
  FoundCore : Last
  Gave : Give → Last

-- `kept` are the cubes that are left out of every question, `outer` is the outer move, `region` is a list of literals, and
-- `blocked` are the cubes that are left out of this question; `ordered` is whether the least move is wanted first;
-- `searches` and `checks` are how often the search for candidates and the check of their minimality have spent the budget, as
-- counts of 64 bits that stand still at their end
pub record MovesState : Type 0 where
  pub game : Game
  pub level : ℕ
  pub budget : ℕ
  pub kept : List (List Lit)
  pub outer : List ℕ
  pub region : List Lit
  pub ordered : Bool
  pub blocked : List (List Lit)
  pub last : Last
  pub searches : ℕ
  pub checks : ℕ

-- a new question
abbrev pub asked : MovesState → List ℕ → List Lit → Bool → MovesState
asked s outer region ordered = record s {
  outer = outer;
  region = region;
  ordered = ordered;
  blocked = [];
  last = Asked;
}

-- one more cube is blocked
abbrev pub with_blocked : MovesState → List Lit → MovesState
with_blocked s cube = record s { blocked = s.blocked ++ cube ∷ [] }

-- one more cube is left out for good
abbrev pub with_kept : MovesState → List Lit → MovesState
with_kept s cube = record s { kept = s.kept ++ cube ∷ [] }

-- the cubes that are left out of the question
abbrev pub left_out : MovesState → List (List Lit)
left_out s = s.kept ++ s.blocked

-- memory was refused
abbrev pub without_memory : MovesState → MovesState
without_memory s = record s { last = Gave NoMemory }

-- memory was refused for a cube to be left out for good: a question that was put gives up
abbrev pub refused_after : Last → Last
refused_after Unasked = Unasked
refused_after last = Gave NoMemory

abbrev pub without_cube : MovesState → MovesState
without_cube s = record s { last = refused_after s.last }
