-- A small game for tests.
use Rattle.std.specs.Prelude.{ℕ, Bool, true, false, List, [], ◌∷◌, codes, Option, None, Some}
use Rattle.asp_defs.specs.declared.syntax.Quant.TheVariants.{Exists}
use Rattle.asp_defs.specs.declared.ground.Game.{Game}
use Rattle.asp_defs.specs.declared.faults.Give.TheVariants.{NoMemory}
use Rattle.asp_game.specs.State.{Last, Unasked, Asked, FoundMove, FoundCore, Gave}

-- exists: {a}.
abbrev pub one_choice : Game
one_choice = record {
  quants = Exists ∷ [];
  bases = record {
    atoms = record { name = codes "a"; args = [] } ∷ [];
    members = [] ∷ (0 ∷ []) ∷ (0 ∷ []) ∷ [];
  };
  rules = (record { choice = true; head = 0 ∷ []; pos = []; neg = [] } ∷ []) ∷ [] ∷ [];
  bounds = [] ∷ [] ∷ [];
}

-- the interpretation in which its atom is true or false
abbrev pub set_of : Bool → List ℕ
set_of true = 0 ∷ []
set_of false = []

-- the last answer, from whether there was a question, whether memory was refused, whether a core was answered, and the
-- move that was found
abbrev pub last_of : Bool → Bool → Bool → Option Bool → Last
last_of false refused core found = Unasked
last_of true true core found = Gave NoMemory
last_of true false true found = FoundCore
last_of true false false (Some value) = FoundMove (set_of value)
last_of true false false None = Asked
