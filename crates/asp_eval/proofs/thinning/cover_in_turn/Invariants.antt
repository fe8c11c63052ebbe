use Rattle.asp_bits.specs.Places.{true_places}
use Rattle.asp_eval.specs.Covering.{Adds}
use Rattle.asp_eval.proofs.thinning.cover_in_turn.Given as goal

-- what was added so far
abbrev pub invariant-loop-at : goal.invariant-loop-at
invariant-loop-at l = Adds (true_places l.outer) l.rules l.fn.chosen l.chosen
