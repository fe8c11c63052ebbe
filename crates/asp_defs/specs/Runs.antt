-- What a run of the program may say: its exit code and its output, by the words and the bytes of the text, in the order
-- in which refusals come (of this project). All definitions are transparent.
use Rattle.std.specs.Prelude.{ℕ, ◌+◌, ◌≡◌, ◌<◌, ◌⊎◌, Bool, true, false, ◌==◌, ◌||◌, is_none, IsTrue, List, [], ◌∷◌, ◌++◌, length, take, Option, None, Some, Ok, Err}
use Rattle.asp_defs.specs.declared.faults.TextFault.{TextFault}
use Rattle.asp_defs.specs.declared.faults.Unknown.{Unknown}
use Rattle.asp_defs.specs.declared.faults.Which.{Which}
use Rattle.asp_defs.specs.declared.faults.Which.TheVariants.{Bytes}
use Rattle.asp_defs.specs.declared.ground.Game.{Game}
use Rattle.asp_defs.specs.declared.syntax.Quant.{Quant}
use Rattle.asp_defs.specs.declared.syntax.Quant.TheVariants.{Exists, Forall}
use Rattle.asp_defs.specs.declared.syntax.Program.{Program}
use Rattle.asp_defs.specs.Games.{game_of}
use Rattle.asp_defs.specs.Values.{is_coherent}
use Rattle.asp_defs.specs.Pages.{Page, page_of}
use Rattle.asp_defs.specs.Entries.{Entry}
use Rattle.asp_defs.specs.History.{has_verdict, is_legal}
use Rattle.asp_defs.specs.Unknowns.{is_possible}
use Rattle.asp_defs.specs.Grammar.{IsText}
use Rattle.asp_defs.specs.TextRefusals.{IsRefused}
use Rattle.asp_defs.specs.Checks.{CheckRefusal, check_refusal}
use Rattle.asp_defs.specs.Limits.{limit}
use Rattle.asp_defs.specs.Sizes.{game_too_large, IsAccepted}
use Rattle.asp_defs.specs.Words.{Tuning, Task, SolveTask, ListTask, CheckTask, DemoTask, tuning_of, task_of_words}
use Rattle.asp_defs.specs.Lines.{word_line, text_fault_line, too_large_line, check_refusal_line, universal_first_line, after_refused_line, unknown_line}
use Rattle.asp_defs.specs.Canonical.{program_text}
use Rattle.asp_defs.specs.Sets.{UnknownEnd, end_of, set_of_text, list_text, page_text, verdict_line, demo_head, demo_end}
use Rattle.asp_defs.specs.LogText.{log_text}
use Rattle.asp_defs.specs.Generator.{demo_text}

-- how a run ends: its exit code, and all that it writes
pub record Ending : Type 0 where
  pub code : ℕ
  pub output : List ℕ

-- the ending of a refused word, by its number from 1, and that of a refused text
abbrev pub word_ending : ℕ → Ending
word_ending number = record { code = 2; output = word_line number }

abbrev pub refusal : List ℕ → Ending
refusal text = record { code = 3; output = text }

-- reading stops behind so many bytes, one more than a text may have
abbrev pub most_read : ℕ
most_read = limit Bytes + 1

-- a text is refused, for the first of these reasons: it is too long, it is no text of a program, a check fails, or the
-- program's game is too large
pub data TextRefusal (bytes : List ℕ) (ending : Ending) : Type 0 where
  TooLong : limit Bytes < length bytes → ending ≡ refusal (too_large_line Bytes most_read) → TextRefusal bytes ending
  NoText : (fault : TextFault) → (limit Bytes < length bytes → ⊥) → IsRefused bytes fault
      → ending ≡ refusal (text_fault_line fault) → TextRefusal bytes ending
  FailedCheck : (p : Program) (why : CheckRefusal) → (limit Bytes < length bytes → ⊥) → IsText bytes p
      → check_refusal p ≡ Some why → ending ≡ refusal (check_refusal_line why) → TextRefusal bytes ending
  LargeGame : (p : Program) (which : Which) (count : ℕ) → (limit Bytes < length bytes → ⊥) → IsText bytes p
      → check_refusal p ≡ None → game_too_large p ≡ Some (which, count)
      → ending ≡ refusal (too_large_line which count) → TextRefusal bytes ending

-- the quantifier of a game's first level
abbrev pub first_quant : Game → Quant
first_quant g = elim g.quants [ [] ↦ Exists | q ∷ quants ↦ q ]

-- the set after which a page begins, by the word that gives it: none without a word, and nothing where the word is no
-- printed subset of the first base
abbrev pub start_of : Game → Option (List ℕ) → Option (Option (List ℕ))
start_of g None = Some None
start_of g (Some word) = elim (set_of_text g.bases word) [ Some I ↦ Some (Some I) | None ↦ None ]

-- the exit code of a page: of sets, of no set from the start on, and of no set after one
abbrev pub page_code : Bool → List (List ℕ) → ℕ
page_code from_start (I ∷ sets) = 10
page_code true [] = 20
page_code false [] = 0

abbrev pub page_ending : Game → Option (List ℕ) → ℕ → Ending
page_ending g after count =
    let page = page_of g after count
    in record { code = page_code (is_none after) page.sets; output = page_text g.bases (is_none after) page }

-- the ending of `list` on an accepted text
abbrev pub list_ending : Game → Option (List ℕ) → ℕ → Ending
list_ending g word count = elim (first_quant g) [
  | Forall ↦ refusal universal_first_line
  | Exists ↦ elim (start_of g word) [ None ↦ refusal after_refused_line | Some after ↦ page_ending g after count ]
]

abbrev pub verdict_code : Bool → ℕ
verdict_code true = 10
verdict_code false = 20

-- the ending of a command on an accepted text of a program, where no budget is spent and no log is asked for
abbrev pub accepted_ending : Task → Program → Ending
accepted_ending (SolveTask tuning log) p =
    let verdict = is_coherent (game_of p) in record { code = verdict_code verdict; output = verdict_line verdict }
accepted_ending (ListTask tuning count word) p = list_ending (game_of p) word count
accepted_ending CheckTask p = record { code = 0; output = program_text p }
accepted_ending (DemoTask n) p =
    let page = page_of (game_of p) None 1
    in record { code = page_code true page.sets; output = demo_head n (demo_text n) (game_of p).bases ++ demo_end page.sets (end_of page) }

-- whether a command works on the bytes that are read; `demo` makes its own text and reads none
abbrev pub reads_bytes : Task → Bool
reads_bytes (SolveTask tuning log) = true
reads_bytes (ListTask tuning count word) = true
reads_bytes CheckTask = true
reads_bytes (DemoTask n) = false

-- the text that a command works on: the bytes that are read, and for `demo` the text that it makes
abbrev pub text_of_task : Task → List ℕ → List ℕ
text_of_task (SolveTask tuning log) bytes = bytes
text_of_task (ListTask tuning count word) bytes = bytes
text_of_task CheckTask bytes = bytes
text_of_task (DemoTask n) bytes = demo_text n

-- a run of a task may end so, where no budget is spent and no log is asked for
abbrev pub TaskEnds : Task → List ℕ → Ending → Type 0
TaskEnds task bytes ending =
    TextRefusal (text_of_task task bytes) ending
    ⊎ ((p : Program) × IsAccepted (text_of_task task bytes) p × (ending ≡ accepted_ending task p))

-- a run of words over bytes may end so, where no budget is spent and no log is asked for: refused words come first
abbrev pub WordsEnd : List (List ℕ) → List ℕ → Ending → Type 0
WordsEnd words bytes ending =
    ((number : ℕ) × (task_of_words words ≡ Err number) × (ending ≡ word_ending number))
    ⊎ ((task : Task) × (task_of_words words ≡ Ok task) × TaskEnds task bytes ending)

-- with the log asked for, a verdict is followed by the log of a legal history that has it at level 1
pub record LogEnds (words : List (List ℕ)) (bytes : List ℕ) (ending : Ending) : Type 0 where
  pub tuning : Tuning
  pub program : Program
  pub history : List Entry
  pub asked : task_of_words words ≡ Ok (SolveTask tuning true)
  pub accepted : IsAccepted bytes program
  pub legal : IsTrue (is_legal (game_of program) history)
  pub shown : IsTrue (has_verdict history (is_coherent (game_of program)))
  pub code : ending.code ≡ verdict_code (is_coherent (game_of program))
  pub output : ending.output
      ≡ verdict_line (is_coherent (game_of program)) ++ log_text (game_of program).bases history

-- where a budget is spent: the open answer, and before it the sets that are known of the page
abbrev pub open_output : Task → Program → List (List ℕ) → Unknown → List ℕ
open_output (SolveTask tuning log) p sets u = unknown_line u
open_output (ListTask tuning count word) p sets u = list_text (game_of p).bases (is_none word) sets (UnknownEnd u)
open_output CheckTask p sets u = []
open_output (DemoTask n) p sets u =
    demo_head n (demo_text n) (game_of p).bases ++ demo_end sets (UnknownEnd u)

-- the page that a command asks for, if any; `demo` asks for one set
abbrev pub asked_page : Task → Game → Option Page
asked_page (SolveTask tuning log) g = Some (record { sets = []; more = false })
asked_page (ListTask tuning count word) g = elim (first_quant g) [
  | Forall ↦ None
  | Exists ↦ elim (start_of g word) [ None ↦ None | Some after ↦ Some (page_of g after count) ]
]
asked_page CheckTask g = None
asked_page (DemoTask n) g = Some (page_of g None 1)

-- the budget and the cells of a task; `demo` has the defaults, and `check` spends none
abbrev pub budget_of : Task → ℕ
budget_of (SolveTask tuning log) = tuning.budget
budget_of (ListTask tuning count word) = tuning.budget
budget_of CheckTask = 0
budget_of (DemoTask n) = (tuning_of []).budget

abbrev pub cells_of : Task → ℕ
cells_of (SolveTask tuning log) = tuning.cells
cells_of (ListTask tuning count word) = tuning.cells
cells_of CheckTask = 0
cells_of (DemoTask n) = (tuning_of []).cells

pub record OpenEnds (words : List (List ℕ)) (bytes : List ℕ) (ending : Ending) : Type 0 where
  pub task : Task
  pub program : Program
  pub page : Page
  pub known : ℕ
  pub unknown : Unknown
  pub asked : task_of_words words ≡ Ok task
  pub accepted : IsAccepted (text_of_task task bytes) program
  pub wanted : asked_page task (game_of program) ≡ Some page
  pub possible : IsTrue (is_possible (game_of program) (budget_of task) (cells_of task) unknown)
  pub code : ending.code ≡ 30
  pub output : ending.output ≡ open_output task program (take known page.sets) unknown

-- whether words ask for the log, and whether an exit code is that of a refusal
abbrev pub wants_log : List (List ℕ) → Bool
wants_log words = elim (task_of_words words) [
  | Ok (SolveTask tuning log) ↦ log
  | Ok (ListTask tuning count word) ↦ false
  | Ok CheckTask ↦ false
  | Ok (DemoTask n) ↦ false
  | Err number ↦ false
]

abbrev pub is_refusal : ℕ → Bool
is_refusal code = (code == 2) || (code == 3)

-- a run of words over bytes may end so without a log: where one is asked for, only by a refusal
abbrev pub UnloggedEnds : List (List ℕ) → List ℕ → Ending → Type 0
UnloggedEnds words bytes ending =
    WordsEnd words bytes ending × (wants_log words ≡ true → is_refusal ending.code ≡ true)

-- a defined ending of a run of words over bytes
abbrev pub IsDefinedEnding : List (List ℕ) → List ℕ → Ending → Type 0
IsDefinedEnding words bytes ending = UnloggedEnds words bytes ending ⊎ (LogEnds words bytes ending ⊎ OpenEnds words bytes ending)
