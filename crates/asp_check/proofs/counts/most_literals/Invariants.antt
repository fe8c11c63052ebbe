use Rattle.std.proofs.Common.{◌≡◌, map, take}
use Rattle.asp_defs.specs.Limits.{rule_literals, greatest}
use Rattle.asp_check.specs.Counts.{capped}
use Rattle.asp_check.proofs.counts.most_literals.Given as goal

abbrev pub invariant-loop-rule : goal.invariant-loop-rule
invariant-loop-rule l = l.most ≡ capped (greatest (map rule_literals (map (λ r. r.now) (take l.rule-index l.rules))))
