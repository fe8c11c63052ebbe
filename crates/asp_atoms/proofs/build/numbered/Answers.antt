use Rattle.std.proofs.Common.{arith}
use Rattle.asp_atoms.proofs.Loops.{arity_fits, few_here, next_fits}
use Rattle.asp_atoms.proofs.build.numbered.Goals as goal

pub overflow_cast-arity : goal.overflow_cast-arity
overflow_cast-arity c = arity_fits c.args.signatures.now c.loop-signature.signature-index _ c.requires.short (omega arith)

pub atoms_of-first-requires : goal.atoms_of-first-requires
atoms_of-first-requires c = few_here c.args.size c.args.signatures.now c.loop-signature.signature-index _ c.requires.few (omega arith)

pub overflow_add-first : goal.overflow_add-first
overflow_add-first c =
    next_fits c.args.size c.args.signatures.now c.loop-signature.signature-index _ c.loop-signature.first c.atoms_of-first.result c.requires.few (omega arith)
    c.loop-signature.invariant.first c.atoms_of-first.ensures
