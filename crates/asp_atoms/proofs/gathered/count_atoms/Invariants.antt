use Rattle.std.proofs.Common.{◌≡◌, ◌^◌, min, take}
use Rattle.std.specs.List.{sum_by}
use Rattle.asp_defs.specs.Bases.{Predicate}
use Rattle.asp_defs.specs.Limits.{most_shown}
use Rattle.asp_atoms.specs.Signatures.{predicates_of}
use Rattle.asp_atoms.proofs.gathered.count_atoms.Given as goal

abbrev pub invariant-loop-signature : goal.invariant-loop-signature
invariant-loop-signature l = l.count ≡ min (sum_by (λ (q : Predicate). l.size ^ q.arity) (predicates_of (take l.signature-index l.signatures))) most_shown
