-- The steps of a trail in two words each.
use Rattle.std.specs.Prelude.{ℕ, ◌==◌, Option, Some, None, if◌then◌else◌}
use Rattle.asp_clauses.specs.declared.trail.Step.{Step}
use Rattle.asp_clauses.specs.declared.steps.Placed.{Placed}
use Rattle.asp_clauses.specs.Records.{end}

-- the reason that a word tells
abbrev pub reason_of : ℕ → Option ℕ
reason_of word = if word == end then None else Some word

abbrev pub step_of : Placed → Step
step_of placed = record { literal = placed.literal; reason = reason_of placed.reason }

-- the word that tells a reason
abbrev pub word_of : Option ℕ → ℕ
word_of None = end
word_of (Some clause) = clause
