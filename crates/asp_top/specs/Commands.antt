-- The words that are served today, each command with its options, and which word is refused. All definitions are
-- transparent.
use Rattle.std.specs.Prelude.{ℕ, ◌≤◌, false, Option, Some, None, Result, Ok, Err, if◌then◌else◌, List, [], ◌∷◌, codes}
use Rattle.std.specs.Str.{bytes_eq}
use Rattle.asp_defs.specs.Words.{WordOption, BudgetOption, CellsOption, Task, SolveTask, CheckTask, settings_from, solve_task, task_of_settings, check_task}
use Rattle.asp_store.specs.Stores.{most_cells}
use Rattle.asp_top.specs.declared.words.Tuning.{Tuning}
use Rattle.asp_top.specs.declared.words.Command.{Command}
use Rattle.asp_top.specs.declared.words.Command.TheVariants.{Solve, Check}

-- the options of `solve` that are served
abbrev pub served_options : List WordOption
served_options = BudgetOption ∷ CellsOption ∷ []

-- the task that words ask for, where they are served today, or the place, from 1, of the first word that can't be read,
-- where a missing word counts too
abbrev pub served_task : List (List ℕ) → Result Task ℕ
served_task [] = Err 1
served_task (word ∷ words) =
    if bytes_eq word (codes "solve") then task_of_settings solve_task (settings_from served_options 2 [] None words)
    else if bytes_eq word (codes "check") then check_task words
    else Err 1

-- the task that a command is: `solve` with one worker for each level and without a log, or `check`
abbrev pub task_of : Command → Task
task_of (Solve tuning) = SolveTask (record { budget = tuning.budget; cells = tuning.cells; teams = 1 ∷ [] }) false
task_of Check = CheckTask

-- the task that a command is, or the place of the word that is refused
abbrev pub task_of_command : Result Command ℕ → Result Task ℕ
task_of_command (Ok command) = Ok (task_of command)
task_of_command (Err place) = Err place

-- a command's cells are within those that a history may take
abbrev pub IsWithin : Command → Type 0
IsWithin (Solve tuning) = tuning.cells ≤ most_cells
IsWithin Check = Unit {0}

-- the place of the refused word, if any
abbrev pub refused_place : Result Task ℕ → Option ℕ
refused_place (Ok task) = None
refused_place (Err place) = Some place

abbrev pub refused_word : List (List ℕ) → Option ℕ
refused_word words = refused_place (served_task words)
