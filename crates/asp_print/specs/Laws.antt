-- A law of what is printed. It is transparent.
use Rattle.std.specs.Prelude.{ℕ, List}
use Rattle.asp_defs.specs.declared.syntax.Program.{Program}
use Rattle.asp_defs.specs.Grammar.{IsText}
use Rattle.asp_defs.specs.Canonical.{program_text}

-- the canonical text of a program that has a text is a text of that program
abbrev pub CanonicalTextIsAText : Type 0
CanonicalTextIsAText = (bytes : List ℕ) (p : Program) → IsText bytes p → IsText (program_text p) p
