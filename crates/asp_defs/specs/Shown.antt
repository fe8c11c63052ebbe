-- The evidence of a run: what it solved with, and what that shows of what the run says (of this project). All definitions
-- are transparent.
use Rattle.std.specs.Prelude.{ℕ, ◌+◌, ◌-◌, ◌*◌, ◌≡◌, Bool, true, ◌&&◌, nat_lt, is_none, IsTrue, if◌then◌else◌, List, [], ◌∷◌, ◌++◌, slice_index, Option, None, Some, Ok}
use Rattle.std.specs.List.{list_all}
use Rattle.asp_defs.specs.declared.faults.Kind.{Kind}
use Rattle.asp_defs.specs.declared.faults.Kind.TheVariants.{Search, Minimal, Store}
use Rattle.asp_defs.specs.declared.faults.Unknown.{Unknown}
use Rattle.asp_defs.specs.declared.ground.Game.{Game}
use Rattle.asp_defs.specs.declared.syntax.Program.{Program}
use Rattle.asp_defs.specs.Games.{game_of, base_size}
use Rattle.asp_defs.specs.Entries.{Entry}
use Rattle.asp_defs.specs.History.{has_verdict, is_held_with, is_legal, cells}
use Rattle.asp_defs.specs.Sizes.{IsAccepted}
use Rattle.asp_defs.specs.Words.{Task, SolveTask, ListTask, CheckTask, DemoTask, task_of_words}
use Rattle.asp_defs.specs.Lines.{unknown_line}
use Rattle.asp_defs.specs.Sets.{PageEnd, MoreEnd, LastEnd, UnknownEnd, list_text, verdict_line, demo_head, demo_end}
use Rattle.asp_defs.specs.LogText.{log_text}
use Rattle.asp_defs.specs.Generator.{demo_text}
use Rattle.asp_defs.specs.Runs.{Ending, verdict_code, page_code, text_of_task, budget_of, cells_of}

-- what a run solved with: its game, budget and cells, its history, and for each kind how often each level from 1 on
-- answered that it was spent
pub record Evidence : Type 0 where
  pub game : Game
  pub budget : ℕ
  pub allowed : ℕ
  pub history : List Entry
  pub searches : List ℕ
  pub checks : List ℕ
  pub refusals : List ℕ

-- how often a kind of search was spent at a level from 1 on
abbrev pub spent_count : Evidence → Kind → ℕ → ℕ
spent_count used Search level = slice_index (0 ∷ used.searches) level
spent_count used Minimal level = slice_index (0 ∷ used.checks) level
spent_count used Store level = slice_index (0 ∷ used.refusals) level

-- whether an entry of the fullest size would pass the cells of a history
abbrev pub is_full : Evidence → ℕ → Bool
is_full used level = nat_lt used.allowed (cells used.history + (1 + 2 * base_size used.game (level - 1)))

-- whether evidence shows an open answer: its kind was spent at its level, and where it is the store, the history is full
abbrev pub shows_unknown : Evidence → Unknown → Bool
shows_unknown used u =
    nat_lt 0 (spent_count used u.kind u.level)
    && elim u.kind [ Search ↦ true | Minimal ↦ true | Store ↦ is_full used u.level ]

-- whether evidence shows a verdict: its history is legal and has an entry of level 1 with it
abbrev pub shows_verdict : Evidence → Bool → Bool
shows_verdict used verdict = is_legal used.game used.history && has_verdict used.history verdict

-- whether evidence shows a set: its history is legal and has an entry of level 2 with the verdict true that holds it
abbrev pub shows_set : Evidence → List ℕ → Bool
shows_set used N = is_legal used.game used.history && is_held_with used.history 2 true N

-- what a run says of its game: its verdict, an open answer in place of it, or sets of a page and how the page ends
pub data Claim : Type 0 where
  VerdictClaim : Bool → Claim
  OpenClaim : Unknown → Claim
  PageClaim : List (List ℕ) → PageEnd → Claim

-- whether evidence shows how a page ends: it is asked for an open answer alone
abbrev pub shows_end : Evidence → PageEnd → Bool
shows_end used MoreEnd = true
shows_end used LastEnd = true
shows_end used (UnknownEnd u) = shows_unknown used u

-- whether evidence shows a claim: the verdict or the open answer, and each set of the page
abbrev pub shows : Evidence → Claim → Bool
shows used (VerdictClaim verdict) = shows_verdict used verdict
shows used (OpenClaim u) = shows_unknown used u
shows used (PageClaim sets ends) = list_all (shows_set used) sets && shows_end used ends

-- the exit code of a page that begins at the start or after a set
abbrev pub page_end_code : Bool → List (List ℕ) → PageEnd → ℕ
page_end_code from_start sets MoreEnd = page_code from_start sets
page_end_code from_start sets LastEnd = page_code from_start sets
page_end_code from_start sets (UnknownEnd u) = 30

-- what `solve` prints of a verdict, with the log of the history where it is asked for
abbrev pub logged_verdict : Evidence → Bool → Bool → List ℕ
logged_verdict used log verdict = verdict_line verdict ++ (if log then log_text used.game.bases used.history else [])

-- how a run of a task that says this ends, if such a task may say it
abbrev pub ending_of : Task → Evidence → Claim → Option Ending
ending_of (SolveTask tuning log) used (VerdictClaim verdict) =
    Some (record { code = verdict_code verdict; output = logged_verdict used log verdict })
ending_of (SolveTask tuning log) used (OpenClaim u) = Some (record { code = 30; output = unknown_line u })
ending_of (SolveTask tuning log) used (PageClaim sets ends) = None
ending_of (ListTask tuning count word) used (VerdictClaim verdict) = None
ending_of (ListTask tuning count word) used (OpenClaim u) = None
ending_of (ListTask tuning count word) used (PageClaim sets ends) =
    Some (record {
      code = page_end_code (is_none word) sets ends;
      output = list_text used.game.bases (is_none word) sets ends;
    })
ending_of CheckTask used claim = None
ending_of (DemoTask n) used (VerdictClaim verdict) = None
ending_of (DemoTask n) used (OpenClaim u) = None
ending_of (DemoTask n) used (PageClaim sets ends) =
    Some (record {
      code = page_end_code true sets ends;
      output = demo_head n (demo_text n) used.game.bases ++ demo_end sets ends;
    })

-- a value is the evidence of a run of these words over these bytes that ends so: its game is that of the accepted text's
-- program, its budget and cells are those of the task, its history is legal, and it shows what the run says
pub record IsEvidence (words : List (List ℕ)) (bytes : List ℕ) (ending : Ending) (used : Evidence) : Type 0 where
  pub task : Task
  pub program : Program
  pub claim : Claim
  pub asked : task_of_words words ≡ Ok task
  pub accepted : IsAccepted (text_of_task task bytes) program
  pub same_game : used.game ≡ game_of program
  pub same_budget : used.budget ≡ budget_of task
  pub same_cells : used.allowed ≡ cells_of task
  pub legal : IsTrue (is_legal used.game used.history)
  pub said : ending_of task used claim ≡ Some ending
  pub shown : IsTrue (shows used claim)
