use Rattle.std.proofs.Common.{◌≡◌, take}
use Rattle.asp_atoms.specs.Members.{level_numbers}
use Rattle.asp_atoms.specs.Signatures.{predicates_of}
use Rattle.asp_atoms.proofs.members.level.Given as goal

abbrev pub invariant-loop-predicate : goal.invariant-loop-predicate
invariant-loop-predicate l = l.out.items ≡ level_numbers l.base (take l.predicate-index l.predicates) l.ranks (predicates_of l.signatures)
