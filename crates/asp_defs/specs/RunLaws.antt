-- Laws of words and of how a run ends. All are transparent.
use Rattle.std.specs.Prelude.{◌≡◌, ◌≢◌, ◌≤◌, ◌+◌, ℕ, true, false, List, [], ◌∷◌, ◌++◌, length, Err}
use Rattle.asp_defs.specs.Words.{task_of_words}
use Rattle.asp_defs.specs.Runs.{Ending, is_refusal, wants_log, IsDefinedEnding}

-- the word that is refused is one of the words, or the missing one behind them
abbrev pub RefusedWordsAreNear : Type 0
RefusedWordsAreNear =
    (words : List (List ℕ)) (number : ℕ) → task_of_words words ≡ Err number → (1 ≤ number) × (number ≤ length words + 1)

-- an empty word can't be read, wherever it stands: it is refused, or a word before it
abbrev pub EmptyWordsAreRefused : Type 0
EmptyWordsAreRefused =
    (front rest : List (List ℕ))
    → (number : ℕ) × (task_of_words (front ++ [] ∷ rest) ≡ Err number) × (number ≤ length front + 1)

-- of the defined endings of the same words and bytes that aren't open answers all have one exit code, and where no log is
-- asked for they are one
abbrev pub EndingsAgree : Type 0
EndingsAgree =
    (words : List (List ℕ)) (bytes : List ℕ) (first second : Ending)
    → IsDefinedEnding words bytes first → IsDefinedEnding words bytes second → first.code ≢ 30 → second.code ≢ 30
    → (first.code ≡ second.code) × (wants_log words ≡ false → first ≡ second)

-- a refusal is the only defined ending of its words and bytes
abbrev pub RefusalsAreAlone : Type 0
RefusalsAreAlone =
    (words : List (List ℕ)) (bytes : List ℕ) (first second : Ending)
    → IsDefinedEnding words bytes first → IsDefinedEnding words bytes second → is_refusal first.code ≡ true → first ≡ second
