use Rattle.std.proofs.Common.{take}
use Rattle.asp_bits.specs.Places.{true_places}
use Rattle.asp_eval.specs.Covering.{Covers}
use Rattle.asp_eval.proofs.covering.cover.Given as goal

-- the bodies so far are covered
abbrev pub invariant-loop-rule : goal.invariant-loop-rule
invariant-loop-rule l = Covers (true_places l.outer) (true_places l.set) (take l.rule-index l.rules) l.fn.chosen l.chosen
