use Rattle.asp_atoms.specs.Signatures.{predicates_of}
use Rattle.asp_ground.proofs.Signed.{short_at}
use Rattle.asp_ground.proofs.consistency.constraints.Goals as goal

pub constraint-requires : goal.constraint-requires
constraint-requires c =
    short_at (predicates_of c.args.signatures.now) c.in_ok-found.found.items c.as_slice-signature-items.result.now c.loop-signature.signature-index _
    c.as_slice-signature-items.ensures.value c.in_ok-found.ensures c.requires.short c.loop-signature-test.true
