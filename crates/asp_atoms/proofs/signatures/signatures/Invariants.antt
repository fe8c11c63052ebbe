use Rattle.std.proofs.Common.{◌≡◌, ◌+◌, map}
use Rattle.asp_defs.specs.Lists.{numbers_from}
use Rattle.asp_atoms.specs.Signatures.{predicates_of, predicates_to}
use Rattle.asp_atoms.proofs.signatures.signatures.Given as goal

abbrev pub invariant-loop-at : goal.invariant-loop-at
invariant-loop-at l = map (λ s. predicates_of s.items) l.signatures.items ≡ map (predicates_to (map (λ r. r.now) l.levels)) (numbers_from 0 (l.at + 1))
