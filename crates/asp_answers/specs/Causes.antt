-- Which trail a spent budget was of, as contracts see it. All definitions are transparent.
use Rattle.std.specs.Prelude.{ℕ, ◌≡◌, ◌+◌, ◌^◌, ◌-◌, ◌<◌, min, length, Result, Ok, Err}
use Rattle.asp_defs.specs.declared.faults.Give.{Give}
use Rattle.asp_defs.specs.declared.faults.Give.TheVariants.{Spent, NoMemory}
use Rattle.asp_defs.specs.declared.faults.Kind.{Kind}
use Rattle.asp_defs.specs.declared.faults.Kind.TheVariants.{Search, Minimal, Store}
use Rattle.asp_defs.specs.declared.faults.Unknown.{Unknown}
use Rattle.asp_defs.specs.Games.{base_size}
use Rattle.asp_game.specs.declared.step.Step.{Step}
use Rattle.asp_completion.specs.declared.level.Level.{Level}
use Rattle.asp_answers.specs.declared.work.Counts.{Counts}
use Rattle.asp_answers.specs.AnswersState.{AnswersState}
use Rattle.asp_completion.specs.Levels.{upper}
use Rattle.asp_answers.specs.Works.{IsTotal, unknown_of}

-- the search's trail has as many placements as the budget allows, or it is total and the last check's trail has
abbrev pub IsTrailCause : Kind → AnswersState → Type 0
IsTrailCause Search s = s.placed ≡ s.moves.budget
IsTrailCause Minimal s = IsTotal (base_size s.moves.game s.moves.level) s.trail × (s.checked ≡ s.moves.budget)
IsTrailCause Store s = ⊥

-- the open answer of a spent budget: it has the level and the budget, the kind is that of a search, not of the store,
-- and the budget isn't enough for all searches of the level
pub record IsFewer (l : Level) (budget : ℕ) (unknown : Unknown) : Type 0 where
  pub is : unknown ≡ unknown_of l budget unknown.kind
  pub few : budget < 3 ^ length (upper l)
  pub searched : unknown.kind ≡ Store → ⊥

-- a count in 64 bits, one further
abbrev pub one_more : ℕ → ℕ
one_more n = min (n + 1) (2 ^ 64 - 1)

-- how often each kind of search has spent the budget, after an answer
abbrev pub counts_with : Kind → ℕ → ℕ → Counts
counts_with Search searches checks = record { searches = one_more searches; checks = checks }
counts_with Minimal searches checks = record { searches = searches; checks = one_more checks }
counts_with Store searches checks = record { searches = searches; checks = checks }

abbrev pub counts_after : Result Step Give → ℕ → ℕ → Counts
counts_after (Ok step) searches checks = record { searches = searches; checks = checks }
counts_after (Err NoMemory) searches checks = record { searches = searches; checks = checks }
counts_after (Err (Spent unknown)) searches checks = counts_with unknown.kind searches checks
