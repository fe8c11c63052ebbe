use Rattle.std.proofs.Common.{◌≡◌, map, take}
use Rattle.std.specs.List.{flat_map}
use Rattle.asp_walk.specs.Written.{rule_terms}
use Rattle.asp_atoms.proofs.terms.terms.Given as goal

abbrev pub invariant-loop-rule : goal.invariant-loop-rule
invariant-loop-rule l = map (λ t. t.now) l.terms.items ≡ flat_map rule_terms (take l.rule-index l.rules)
