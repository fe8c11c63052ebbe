-- The size of a program's game: its constants, atoms and instances, and the limit that is passed first (of this project).
-- All definitions are transparent.
use Rattle.std.specs.Prelude.{ℕ, is_none, List, length, Option, IsTrue, ◌≤◌}
use Rattle.std.specs.List.{sum_by, enumerate_from}
use Rattle.std.specs.Option.{option_or}
use Rattle.asp_defs.specs.declared.faults.Which.{Which}
use Rattle.asp_defs.specs.declared.faults.Which.TheVariants.{Bytes, Constants, Atoms, Instances}
use Rattle.asp_defs.specs.declared.syntax.Rule.{Rule}
use Rattle.asp_defs.specs.declared.syntax.Program.{Program}
use Rattle.asp_defs.specs.Constants.{universe, level_rules}
use Rattle.asp_defs.specs.Bases.{base_atoms, last_level}
use Rattle.asp_defs.specs.Instances.{instance_count}
use Rattle.asp_defs.specs.Grammar.{IsText}
use Rattle.asp_defs.specs.Checks.{is_checked}
use Rattle.asp_defs.specs.Limits.{limit, past_limit}

-- the constants of the last universe, and the atoms of the last base
abbrev pub constant_total : Program → ℕ
constant_total p = length (universe p (last_level p))

abbrev pub atom_total : Program → ℕ
atom_total p = length (base_atoms p (last_level p))

-- the instances of all rules of all levels and of the constraint part, before comparisons are looked at
abbrev pub level_instances : Program → (ℕ × List Rule) → ℕ
level_instances p level = sum_by (instance_count (length (universe p level.0))) level.1

abbrev pub instance_total : Program → ℕ
instance_total p = sum_by (level_instances p) (enumerate_from 1 (level_rules p))

-- the first limit on a program's game that is passed, with the count
abbrev pub game_too_large : Program → Option (Which × ℕ)
game_too_large p =
    option_or (past_limit Constants (constant_total p))
    (option_or (past_limit Atoms (atom_total p)) (past_limit Instances (instance_total p)))

-- bytes are an accepted text of a program: a text that is short enough, of a program that passes all checks and whose game
-- keeps the limits
pub record IsAccepted (bytes : List ℕ) (p : Program) : Type 0 where
  pub short : length bytes ≤ limit Bytes
  pub text : IsText bytes p
  pub checked : IsTrue (is_checked p)
  pub small : IsTrue (is_none (game_too_large p))
