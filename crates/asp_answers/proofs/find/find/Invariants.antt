use Rattle.std.proofs.Common.{◌≤◌}
use Rattle.asp_answers.specs.Candidates.{candidates_left}
use Rattle.asp_completion.specs.Levels.{upper}
use Rattle.asp_answers.specs.Recorded.{Learns}
use Rattle.asp_answers.specs.Works.{IsAsked, KeepsQuestion}
use Rattle.asp_answers.proofs.find.find.Given as goal

-- the question stays, and what the search's clauses say; no placement and no nogood is forgotten
abbrev pub invariant-loop-answer : goal.invariant-loop-answer
invariant-loop-answer l =
    IsAsked l.level l.budget l.work × KeepsQuestion l.fn.work l.work × (l.fn.work.search.count ≤ l.work.search.count)
    × Learns l.level l.fn.work l.work

-- how many candidates are left
abbrev pub decreases-loop-answer : goal.decreases-loop-answer
decreases-loop-answer l = candidates_left (upper l.level) l.work.search.clauses
