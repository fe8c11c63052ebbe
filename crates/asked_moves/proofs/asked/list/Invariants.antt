use Rattle.asked_moves.specs.Asking.{IsAsked}
use Rattle.asked_moves.proofs.asked.list.Given as goal

-- the same level is asked still
abbrev pub invariant-loop : goal.invariant-loop
invariant-loop l = IsAsked l.fn.answers.moves l.answers.moves
