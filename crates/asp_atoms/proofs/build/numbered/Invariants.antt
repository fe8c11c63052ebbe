use Rattle.std.proofs.Common.{◌≡◌, ◌^◌, ◌++◌, drop, take}
use Rattle.std.specs.List.{sum_by}
use Rattle.asp_defs.specs.Bases.{Predicate}
use Rattle.asp_atoms.specs.Signatures.{predicates_of}
use Rattle.asp_atoms.specs.Vocabularies.{numbered_from}
use Rattle.asp_atoms.proofs.build.numbered.Given as goal

abbrev pub invariant-loop-signature : goal.invariant-loop-signature
invariant-loop-signature l = record {
  first : l.first ≡ sum_by (λ (q : Predicate). l.size ^ q.arity) (predicates_of (take l.signature-index l.signatures));
  same : l.out.items ++ numbered_from l.size l.first (predicates_of (drop l.signature-index l.signatures)) ≡ numbered_from l.size 0 (predicates_of l.signatures);
}
