-- What the sink holds at the end of a run, by what it had taken before and now. All definitions are transparent.
use Rattle.std.specs.Prelude.{◌≡◌, ◌⊎◌, ◌≤◌, ℕ, Option, None, List}
use Rattle.std.specs.Io.KnownBytes.{Appends}
use Rattle.asp_io.specs.Causes.{Rose}
use Rattle.asp_io.specs.Moved.{AppendsPrefix}
use Rattle.asp_top.specs.declared.status.Ended.{Ended}
use Rattle.asp_top.specs.declared.status.Status.{Status}
use Rattle.asp_top.specs.declared.status.Status.TheVariants.{Words, Write}
use Rattle.asp_top.specs.declared.status.Used.{Used}
use Rattle.asp_defs.specs.Lines.{word_line}
use Rattle.asp_defs.specs.Shown.{Evidence, IsEvidence}
use Rattle.asp_top.specs.Answers.{ending_of, IsAnswer}
use Rattle.asp_top.specs.declared.status.Used.TheVariants.{Single}

-- what is seen of what a run solved with
abbrev pub evidence_of : Used → Evidence
evidence_of (Single used) = used

-- the sink grew by what a run of these words over these bytes, which ends so, has to say
abbrev pub SaysAnswer : List (List ℕ) → List ℕ → Ended → Option (List ℕ) → Option (List ℕ) → Type 0
SaysAnswer words bytes ended before now =
    (output : List ℕ) × IsAnswer words bytes ended output × Appends before now output

-- and what the run solved with is the evidence of it
abbrev pub ShowsAnswer : List (List ℕ) → List ℕ → Ended → Used → Option (List ℕ) → Option (List ℕ) → Type 0
ShowsAnswer words bytes ended used before now =
    (output : List ℕ) × IsAnswer words bytes ended output × IsEvidence words bytes (ending_of ended output) (evidence_of used)
    × Appends before now output

-- the sink grew by the beginning of what a run of these words over these bytes has to say
abbrev pub BeginsAnswer : List (List ℕ) → List ℕ → Option (List ℕ) → Option (List ℕ) → Type 0
BeginsAnswer words bytes before now =
    (ended : Ended) × (output : List ℕ) × IsAnswer words bytes ended output × AppendsPrefix before now output

-- the sink grew by the line that refuses the word at this place, or it failed and grew by the line's beginning
abbrev pub RefusesWord : ℕ → Status → Option (List ℕ) → Option (List ℕ) → Type 0
RefusesWord place status before now =
    ((status ≡ Words) × Appends before now (word_line place))
    ⊎ ((status ≡ Write) × AppendsPrefix before now (word_line place))

-- the run ends so, and the sink grew by the text, or the sink failed and grew by the text's beginning
abbrev pub EndsSo : Option (List ℕ) → Option (List ℕ) → ℕ → ℕ → Ended → Ended → List ℕ → Type 0
EndsSo before now faults_before faults_now ending ended text =
    ((ending.status ≡ ended.status) × (ending.used ≡ ended.used) × Appends before now text × (faults_now ≡ faults_before))
    ⊎ ((ending.status ≡ Write) × (ending.used ≡ None) × AppendsPrefix before now text × Rose faults_before faults_now
    × (faults_before ≤ faults_now))
