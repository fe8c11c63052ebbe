use Rattle.std.proofs.Common.{◌≡◌, ◌++◌, take}
use Rattle.std.specs.List.{flat_map}
use Rattle.asp_template.specs.Compiled.{compiled_instances}
use Rattle.asp_template.proofs.rules.add_rules.Given as goal

abbrev pub invariant-loop-rule : goal.invariant-loop-rule
invariant-loop-rule l =
    l.out ≡ l.fn.out ++ flat_map (compiled_instances l.vocabulary l.ranks) (take l.rule-index l.rules)
