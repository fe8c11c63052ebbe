use Rattle.std.proofs.Common.{◌≡◌}
use Rattle.asp_defs.specs.Limits.{rule_atoms}
use Rattle.asp_check.specs.Counts.{arguments_with}
use Rattle.asp_check.proofs.counts.rule_arguments.Given as goal

abbrev pub invariant-loop-atom : goal.invariant-loop-atom
invariant-loop-atom l = arguments_with l.most l.atom-iterator ≡ arguments_with l.fn.most (rule_atoms l.rule)
