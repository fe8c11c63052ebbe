use Rattle.std.proofs.Common.{◌≡◌, map}
use Rattle.std.specs.List.{flat_map, fold}
use Rattle.asp_defs.specs.Constants.{const_cmp, term_constants, rule_constants}
use Rattle.asp_atoms.specs.Ascending.{Ascends}
use Rattle.asp_atoms.specs.ConstRefs.{const_of}
use Rattle.asp_ground.specs.Counts.{with_constant}
use Rattle.asp_ground.proofs.constants.add_rule.Given as goal

abbrev pub invariant-loop-term : goal.invariant-loop-term
invariant-loop-term l = record {
  left : fold with_constant (map const_of l.found.items) (flat_map term_constants l.term-iterator)
      ≡ fold with_constant (map const_of l.fn.found.items) (rule_constants l.rule);
  ascending : Ascends const_cmp (map const_of l.found.items);
}
