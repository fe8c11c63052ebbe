use Rattle.asp_bits.specs.Places.{true_places}
use Rattle.asp_explain.specs.Achieving.{MarksRules}
use Rattle.asp_explain.proofs.thinning.satisfy_in_turn.Given as goal

-- what is marked so far
abbrev pub invariant-loop-at : goal.invariant-loop-at
invariant-loop-at l = MarksRules (true_places l.outer) l.rules l.fn.marks l.marks
