-- What a run may answer: a defined ending of its words and bytes, where these are served today. All definitions are
-- transparent.
use Rattle.std.specs.Prelude.{◌≡◌, ◌≢◌, ◌⊎◌, ℕ, Err, List}
use Rattle.asp_defs.specs.Runs.{Ending, TextRefusal, word_ending, refusal, IsDefinedEnding}
use Rattle.asp_defs.specs.Words.{task_of_words}
use Rattle.asp_top.specs.declared.status.Ended.{Ended}
use Rattle.asp_top.specs.Commands.{served_task}
use Rattle.asp_top.specs.Statuses.{code_of}

-- a text is refused with this line, for the first reason that there is
abbrev pub IsRefusedWith : List ℕ → List ℕ → Type 0
IsRefusedWith bytes output = TextRefusal bytes (refusal output)

-- the ending that a run with this output comes to
abbrev pub ending_of : Ended → List ℕ → Ending
ending_of ended output = record { code = code_of ended.status; output = output }

-- words that are served today: they are read, or refused, as the definition has it
abbrev pub IsServed : List (List ℕ) → Type 0
IsServed words = task_of_words words ≡ served_task words

-- the ending of words that aren't served: the first word that isn't read today is refused, though the definition doesn't
-- refuse it
pub record IsUnserved (words : List (List ℕ)) (ending : Ending) : Type 0 where
  pub place : ℕ
  pub unread : served_task words ≡ Err place
  pub differs : task_of_words words ≢ Err place
  pub refused : ending ≡ word_ending place

-- where nothing fails, a run of these words over these bytes may end so with this output
abbrev pub IsAnswer : List (List ℕ) → List ℕ → Ended → List ℕ → Type 0
IsAnswer words bytes ended output =
    (IsServed words × IsDefinedEnding words bytes (ending_of ended output))
    ⊎ IsUnserved words (ending_of ended output)
