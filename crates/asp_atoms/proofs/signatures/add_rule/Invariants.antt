use Rattle.std.proofs.Common.{◌≡◌, ◌++◌, map}
use Rattle.asp_defs.specs.Bases.{atom_predicate, rule_predicates}
use Rattle.asp_atoms.specs.Signatures.{predicates_of}
use Rattle.asp_atoms.proofs.signatures.add_rule.Given as goal

abbrev pub invariant-loop-atom : goal.invariant-loop-atom
invariant-loop-atom l =
    predicates_of l.out.items ++ map atom_predicate l.atom-iterator ≡ predicates_of l.fn.out.items ++ rule_predicates l.rule
