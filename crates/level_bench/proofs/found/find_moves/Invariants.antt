use Rattle.asked_moves.specs.Asking.{IsAsked}
use Rattle.level_bench.proofs.found.find_moves.Given as goal

-- the same level is asked still
abbrev pub invariant-loop : goal.invariant-loop
invariant-loop l = IsAsked l.fn.answers.moves l.answers.moves
