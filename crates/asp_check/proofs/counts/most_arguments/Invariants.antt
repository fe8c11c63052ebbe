use Rattle.std.proofs.Common.{◌≡◌, map, take}
use Rattle.std.specs.List.{flat_map}
use Rattle.asp_defs.specs.Limits.{rule_atoms}
use Rattle.asp_check.specs.Counts.{arguments_with}
use Rattle.asp_check.proofs.counts.most_arguments.Given as goal

abbrev pub invariant-loop-rule : goal.invariant-loop-rule
invariant-loop-rule l = l.most ≡ arguments_with 0 (flat_map rule_atoms (map (λ r. r.now) (take l.rule-index l.rules)))
