-- Laws of the texts of sets. All definitions are transparent.
use Rattle.std.specs.Prelude.{ℕ, ◌≡◌, List, Some}
use Rattle.asp_defs.specs.declared.syntax.Program.{Program}
use Rattle.asp_defs.specs.Grammar.{IsText}
use Rattle.asp_defs.specs.Bases.{bases_of}
use Rattle.asp_defs.specs.Lists.{IsIn}
use Rattle.asp_defs.specs.Interpretations.{subsets}
use Rattle.asp_defs.specs.Games.{game_of, base, IsValid}
use Rattle.asp_defs.specs.Sets.{set_text, set_of_text}
use Rattle.asp_sets.specs.Readable.{AreReadable}

-- the bases of a text's program are readable, where its game is valid
abbrev pub TextBasesAreReadable : Type 0
TextBasesAreReadable = (bytes : List ℕ) (p : Program) → IsText bytes p → IsValid (game_of p) → AreReadable (bases_of p)

-- a printed set of the first level's atoms of a text's program is the one that its text is read as
abbrev pub TextsAreRead : Type 0
TextsAreRead =
    (bytes : List ℕ) (p : Program) → IsText bytes p → IsValid (game_of p) → (I : List ℕ) → IsIn I (subsets (base (game_of p) 1))
    → set_of_text (bases_of p) (set_text (bases_of p) I) ≡ Some I
