use Rattle.std.proofs.Common.{◌≡◌, ◌++◌, take}
use Rattle.std.specs.List.{flat_map}
use Rattle.asp_defs.specs.Bases.{rule_predicates}
use Rattle.asp_atoms.specs.Signatures.{predicates_of}
use Rattle.asp_atoms.proofs.signatures.add_rules.Given as goal

abbrev pub invariant-loop-rule : goal.invariant-loop-rule
invariant-loop-rule l = predicates_of l.out.items ≡ predicates_of l.fn.out.items ++ flat_map rule_predicates (take l.rule-index l.rules)
