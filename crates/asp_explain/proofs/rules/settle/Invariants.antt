use Rattle.std.proofs.Common.{take}
use Rattle.asp_bits.specs.Places.{true_places}
use Rattle.asp_explain.specs.Achieving.{SettlesRules}
use Rattle.asp_explain.proofs.rules.settle.Given as goal

-- what is marked for the rules so far
abbrev pub invariant-loop-rule : goal.invariant-loop-rule
invariant-loop-rule l = SettlesRules (true_places l.outer) (true_places l.founded) (true_places l.set) (take l.rule-index l.rules) l.fn.marks l.marks
