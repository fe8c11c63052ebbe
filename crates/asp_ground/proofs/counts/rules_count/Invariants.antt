use Rattle.std.proofs.Common.{◌≡◌, take}
use Rattle.std.specs.List.{sum_by}
use Rattle.asp_atoms.specs.Counts.{shown}
use Rattle.asp_ground.specs.Counts.{rule_count}
use Rattle.asp_ground.proofs.counts.rules_count.Given as goal

abbrev pub invariant-loop-rule : goal.invariant-loop-rule
invariant-loop-rule l = l.count ≡ shown (sum_by (rule_count l.size) (take l.rule-index l.rules))
