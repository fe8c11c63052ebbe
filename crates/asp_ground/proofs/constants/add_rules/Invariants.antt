use Rattle.std.proofs.Common.{map, take}
use Rattle.std.specs.List.{flat_map}
use Rattle.asp_defs.specs.Constants.{rule_constants}
use Rattle.asp_atoms.specs.ConstRefs.{const_of}
use Rattle.asp_ground.specs.Counts.{Gathers}
use Rattle.asp_ground.proofs.constants.add_rules.Given as goal

abbrev pub invariant-loop-rule : goal.invariant-loop-rule
invariant-loop-rule l =
    Gathers (map const_of l.fn.found.items) (map const_of l.found.items) (flat_map rule_constants (take l.rule-index l.rules))
