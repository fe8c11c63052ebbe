use Rattle.std.proofs.Common.{◌≡◌, ◌++◌, drop, map}
use Rattle.asp_atoms.specs.Members.{levels_numbers}
use Rattle.asp_atoms.specs.Signatures.{predicates_of}
use Rattle.asp_atoms.proofs.members.members.Given as goal

abbrev pub invariant-loop-at : goal.invariant-loop-at
invariant-loop-at l = l.out.items ++ levels_numbers l.base l.predicates (drop l.at l.universes) (drop l.at (map (λ s. predicates_of s.items) l.signatures)) ≡ levels_numbers l.base l.predicates l.universes (map (λ s. predicates_of s.items) l.signatures)
