-- Laws of the answers of runs, each the contract of a function of `src/laws.rt`. All are transparent.
use Rattle.std.specs.Prelude.{◌≡◌, ◌≢◌, ◌≤◌, ℕ, Bool, true, false, List, Ok, Err}
use Rattle.asp_defs.specs.declared.ground.Game.{Game}
use Rattle.asp_defs.specs.declared.syntax.Program.{Program}
use Rattle.asp_defs.specs.Games.{game_of, level_count}
use Rattle.asp_defs.specs.Sizes.{IsAccepted}
use Rattle.asp_defs.specs.Unknowns.{enough_placements, enough_cells}
use Rattle.asp_defs.specs.Words.{Tuning, Task, SolveTask, task_of_words}
use Rattle.asp_defs.specs.Runs.{is_refusal, wants_log}
use Rattle.asp_top.specs.declared.status.Ended.{Ended}
use Rattle.asp_top.specs.declared.status.Status.TheVariants.{Unknown, Done}
use Rattle.asp_top.specs.Answers.{IsAnswer}
use Rattle.asp_top.specs.Commands.{served_task}
use Rattle.asp_top.specs.Statuses.{code_of}

-- words that are served today ask for the task that the definition has for them, and where the definition refuses a word,
-- that one or one before it is refused
pub record WordsAgree : Type 0 where
  pub served : (words : List (List ℕ)) (task : Task) → served_task words ≡ Ok task → task_of_words words ≡ Ok task
  pub refused : (words : List (List ℕ)) (place : ℕ) → task_of_words words ≡ Err place
      → (first : ℕ) × (served_task words ≡ Err first) × (1 ≤ first) × (first ≤ place)

-- there is an answer to all words and bytes
abbrev pub AnswersExist : Type 0
AnswersExist =
    (words : List (List ℕ)) (bytes : List ℕ) → (ended : Ended) × (output : List ℕ) × IsAnswer words bytes ended output

-- a refusal is the only answer to its words and bytes
abbrev pub RefusalsAreUnique : Type 0
RefusalsAreUnique =
    (words : List (List ℕ)) (bytes : List ℕ) (ended other : Ended) (output text : List ℕ)
    → IsAnswer words bytes ended output → IsAnswer words bytes other text → is_refusal (code_of ended.status) ≡ true
    → (ended.status ≡ other.status) × (output ≡ text)

-- answers of status 0 have one output
abbrev pub DoneIsUnique : Type 0
DoneIsUnique =
    (words : List (List ℕ)) (bytes : List ℕ) (ended other : Ended) (output text : List ℕ)
    → IsAnswer words bytes ended output → IsAnswer words bytes other text → ended.status ≡ Done → other.status ≡ Done
    → output ≡ text

-- answers that aren't open have one status, so there are never both verdicts
abbrev pub OneStatus : Type 0
OneStatus =
    (words : List (List ℕ)) (bytes : List ℕ) (ended other : Ended) (output text : List ℕ)
    → IsAnswer words bytes ended output → IsAnswer words bytes other text → ended.status ≢ Unknown
    → other.status ≢ Unknown → ended.status ≡ other.status

-- answers that aren't open have one output, where the words ask for no log
abbrev pub OneOutput : Type 0
OneOutput =
    (words : List (List ℕ)) (bytes : List ℕ) (ended other : Ended) (output text : List ℕ)
    → IsAnswer words bytes ended output → IsAnswer words bytes other text → ended.status ≢ Unknown
    → other.status ≢ Unknown → wants_log words ≡ false → output ≡ text

-- each search of a game may place as many literals as it can at most, and the history may take all cells that it can
pub record IsEnough (g : Game) (tuning : Tuning) : Type 0 where
  pub budget : (level : ℕ) → 1 ≤ level → level ≤ level_count g → enough_placements g level ≤ tuning.budget
  pub cells : enough_cells g ≤ tuning.cells

-- where the budget and the cells are enough, no answer to an accepted text is open
abbrev pub EnoughSettles : Type 0
EnoughSettles =
    (words : List (List ℕ)) (bytes : List ℕ) (ended : Ended) (output : List ℕ) (tuning : Tuning) (log : Bool) (p : Program)
    → IsAnswer words bytes ended output → task_of_words words ≡ Ok (SolveTask tuning log) → IsAccepted bytes p
    → IsEnough (game_of p) tuning → ended.status ≢ Unknown
