-- An accepted program beside its vocabulary, and what is said of its coherence. All definitions are transparent.
use Rattle.std.specs.Prelude.{◌≡◌, ℕ, Bool, None, IsTrue}
use Rattle.asp_defs.specs.declared.faults.Unknown.{Unknown}
use Rattle.asp_defs.specs.declared.ground.Game.{Game}
use Rattle.asp_defs.specs.declared.syntax.Program.{Program}
use Rattle.asp_defs.specs.Games.{game_of}
use Rattle.asp_defs.specs.History.{is_legal}
use Rattle.asp_defs.specs.Shown.{Evidence, shows_verdict, shows_unknown}
use Rattle.asp_defs.specs.Sizes.{game_too_large}
use Rattle.asp_defs.specs.Unknowns.{is_possible}
use Rattle.asp_defs.specs.Values.{is_coherent}
use Rattle.asp_atoms.specs.Vocabularies.{vocabulary_of}
use Rattle.asp_top.specs.declared.accept.Accepted.{Accepted}
use Rattle.asp_top.specs.declared.answer.Answer.{Answer}
use Rattle.asp_top.specs.declared.answer.Answer.TheVariants as answer
use Rattle.asp_top.specs.declared.words.Tuning.{Tuning}

-- a program stands beside its vocabulary, and its game keeps the limits
pub record IsMeasured (accepted : Accepted) : Type 0 where
  pub known : accepted.vocabulary ≡ vocabulary_of accepted.checked
  pub small : game_too_large accepted.checked ≡ None

-- what a run solved with has a game, these bounds and a legal history
pub record IsRunOf (g : Game) (most cells : ℕ) (used : Evidence) : Type 0 where
  pub game : used.game ≡ g
  pub budget : used.budget ≡ most
  pub allowed : used.allowed ≡ cells
  pub legal : IsTrue (is_legal used.game used.history)

-- a game is coherent or not, and what the run solved with shows it
pub record HasVerdict (g : Game) (most cells : ℕ) (verdict : Bool) (used : Evidence) : Type 0 where
  pub run : IsRunOf g most cells used
  pub coherent : is_coherent g ≡ verdict
  pub shown : IsTrue (shows_verdict used verdict)

-- the question stays open for a reason that is possible, and what the run solved with shows it
pub record StaysOpen (g : Game) (most cells : ℕ) (u : Unknown) (used : Evidence) : Type 0 where
  pub run : IsRunOf g most cells used
  pub possible : IsTrue (is_possible g most cells u)
  pub shown : IsTrue (shows_unknown used u)

-- what is said of a game's coherence is right
abbrev pub IsDecided : Game → ℕ → ℕ → Answer → Type 0
IsDecided g most cells (answer.Refused line) = ⊥
IsDecided g most cells (answer.Accepted q) = ⊥
IsDecided g most cells (answer.Verdict verdict used) = HasVerdict g most cells verdict used
IsDecided g most cells (answer.Unknown u used) = StaysOpen g most cells u used

-- what is said of a program's coherence is right
abbrev pub IsSolved : Tuning → Program → Answer → Type 0
IsSolved tuning p answer = IsDecided (game_of p) tuning.budget tuning.cells answer
