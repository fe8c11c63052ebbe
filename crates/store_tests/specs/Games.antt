-- Two games. All definitions are transparent.
use Rattle.std.specs.Prelude.{ℕ, Bool, true, false, List, [], ◌∷◌}
use Rattle.asp_defs.specs.declared.ground.Bases.{Bases}
use Rattle.asp_defs.specs.declared.ground.Game.{Game}
use Rattle.asp_defs.specs.declared.ground.GroundAtom.{GroundAtom}
use Rattle.asp_defs.specs.declared.ground.GroundRule.{GroundRule}
use Rattle.asp_defs.specs.declared.syntax.Quant.TheVariants.{Exists}

abbrev pub atom_of : ℕ → GroundAtom
atom_of letter = record { name = letter ∷ []; args = [] }

abbrev pub rule_of : Bool → List ℕ → List ℕ → GroundRule
rule_of choice head pos = record { choice = choice; head = head; pos = pos; neg = [] }

-- an existential level and constraints
abbrev pub game_of_level : Bases → List GroundRule → List GroundRule → Game
game_of_level bases rules constraints = record {
  quants = Exists ∷ [];
  bases = bases;
  rules = rules ∷ constraints ∷ [];
  bounds = [] ∷ [] ∷ [];
}

-- each of two atoms may hold, and not both
abbrev pub two_choices : Game
two_choices =
    game_of_level (record { atoms = atom_of 97 ∷ atom_of 98 ∷ []; members = [] ∷ (0 ∷ 1 ∷ []) ∷ (0 ∷ 1 ∷ []) ∷ [] })
    (rule_of true (0 ∷ []) [] ∷ rule_of true (1 ∷ []) [] ∷ []) (rule_of false [] (0 ∷ 1 ∷ []) ∷ [])

-- nothing
abbrev pub no_rules : Game
no_rules = game_of_level (record { atoms = []; members = [] ∷ [] ∷ [] ∷ [] }) [] []
