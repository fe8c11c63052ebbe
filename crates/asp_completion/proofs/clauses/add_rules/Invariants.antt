use Rattle.std.proofs.Common.{take}
use Rattle.asp_completion.specs.Levels.{game_at}
use Rattle.asp_completion.proofs.Loops.{HasRulesSoFar}
use Rattle.asp_completion.proofs.clauses.add_rules.Given as goal

-- the search has the clauses of the rules so far
abbrev pub invariant-loop-rule : goal.invariant-loop-rule
invariant-loop-rule l =
    HasRulesSoFar (game_at l.level) l.level.number (take l.rule-index l.rules) l.fn.search l.search
