-- Laws of the condition.
use Rattle.std.specs.Prelude.{ℕ, List}
use Rattle.asp_defs.specs.declared.syntax.Program.{Program}
use Rattle.asp_defs.specs.Tokens.{Token}
use Rattle.asp_defs.specs.Grammar.{IsProgram, IsText}
use Rattle.asp_checked.specs.Condition.{IsCheckable}

-- a program of tokens can be checked
abbrev pub ProgramsAreCheckable : Type 0
ProgramsAreCheckable = (ts : List Token) (p : Program) → IsProgram ts p → IsCheckable p

-- a program of a text can be checked
abbrev pub TextsAreCheckable : Type 0
TextsAreCheckable = (bytes : List ℕ) (p : Program) → IsText bytes p → IsCheckable p
