use Rattle.std.proofs.Common.{◌≡◌, map, take}
use Rattle.asp_defs.specs.Limits.{variable_count, greatest}
use Rattle.asp_check.proofs.counts.most_variables.Given as goal

abbrev pub invariant-loop-rule : goal.invariant-loop-rule
invariant-loop-rule l = l.most ≡ greatest (map variable_count (map (λ r. r.now) (take l.rule-index l.rules)))
