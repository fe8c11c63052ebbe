use Rattle.std.proofs.Common.{take}
use Rattle.asp_bits.specs.Places.{true_places}
use Rattle.asp_explain.specs.Achieving.{MarksRules}
use Rattle.asp_explain.proofs.thinning.keep_singles.Given as goal

-- what is marked for the rules so far
abbrev pub invariant-loop-rule : goal.invariant-loop-rule
invariant-loop-rule l = MarksRules (true_places l.outer) (take l.rule-index l.rules) l.fn.marks l.marks
