-- Laws of the games of programs.
use Rattle.std.specs.Prelude.{ℕ, ◌≡◌, ◌+◌, ◌≤◌, true, false, List, IsTrue, None}
use Rattle.asp_defs.specs.declared.ground.GroundAtom.{GroundAtom}
use Rattle.asp_defs.specs.declared.syntax.Program.{Program}
use Rattle.asp_defs.specs.Checks.{is_checked}
use Rattle.asp_defs.specs.Sizes.{game_too_large}
use Rattle.asp_defs.specs.Lists.{IsIn}
use Rattle.asp_defs.specs.Interpretations.{holds}
use Rattle.asp_defs.specs.Bases.{atom_number, bases_of}
use Rattle.asp_defs.specs.Consistency.{negated_name}
use Rattle.asp_defs.specs.Games.{game_of, level_count, IsValid}
use Rattle.asp_defs.specs.Values.{moves}
use Rattle.asp_checked.specs.Condition.{IsCheckable}

-- a program that passes all checks and keeps the limits has a valid game
abbrev pub TextGamesAreValid : Type 0
TextGamesAreValid =
    (p : Program) → IsTrue (is_checked p) → IsCheckable p → game_too_large p ≡ None → IsValid (game_of p)

-- the strong negation of an atom
abbrev pub negation : GroundAtom → GroundAtom
negation a = record { name = negated_name a.name; args = a.args }

-- no move of a level, or of the constraint part, has an atom and its strong negation
abbrev pub MovesAreConsistent : Type 0
MovesAreConsistent =
    (p : Program) (i : ℕ) (M N : List ℕ) (a : GroundAtom) → 1 ≤ i → i ≤ level_count (game_of p) + 1
    → IsIn N (moves (game_of p) i M) → holds N (atom_number (bases_of p).atoms a) ≡ true
    → holds N (atom_number (bases_of p).atoms (negation a)) ≡ false
