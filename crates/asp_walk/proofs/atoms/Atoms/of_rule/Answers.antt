use Rattle.std.proofs.Common.{◌∙◌, List, ap, map}
use Rattle.std.specs.List.{flat_map}
use Rattle.asp_defs.specs.declared.syntax.Literal.{Literal}
use Rattle.asp_defs.specs.Bases.{atom_predicate}
use Rattle.asp_defs.specs.Limits.{literal_atoms}
use Rattle.asp_walk.proofs.Reading.{rule_atoms_are, rule_predicates_are}
use Rattle.asp_walk.proofs.atoms.Atoms.of_rule.Goals as goal

pub returns-clause-atoms : goal.returns-clause-atoms
returns-clause-atoms c = ap (λ (ls : List Literal). flat_map literal_atoms ls) c.of_rule.ensures ∙ rule_atoms_are c.args.rule.now

pub returns-clause-predicates : goal.returns-clause-predicates
returns-clause-predicates c =
    ap (map atom_predicate) (ap (λ (ls : List Literal). flat_map literal_atoms ls) c.of_rule.ensures ∙ rule_atoms_are c.args.rule.now)
    ∙ rule_predicates_are c.args.rule.now
