use Rattle.std.proofs.Common.{◌≡◌, map, take}
use Rattle.std.specs.List.{flat_map}
use Rattle.asp_defs.specs.Bases.{predicate_atoms}
use Rattle.asp_atoms.specs.Vocabularies.{unnumbered}
use Rattle.asp_atoms.proofs.tuples.atoms.Given as goal

abbrev pub invariant-loop-predicate : goal.invariant-loop-predicate
invariant-loop-predicate l = l.atoms.items ≡ flat_map (predicate_atoms l.constants) (map unnumbered (take l.predicate-index l.predicates))
