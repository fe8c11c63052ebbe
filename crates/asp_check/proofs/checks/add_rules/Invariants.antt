use Rattle.std.proofs.Common.{◌≡◌, ◌++◌, map, take}
use Rattle.asp_check.proofs.checks.add_rules.Given as goal

abbrev pub invariant-loop-rule : goal.invariant-loop-rule
invariant-loop-rule l = map (λ r. r.now) l.out.items ≡ map (λ r. r.now) l.fn.out.items ++ take l.rule-index l.rules
