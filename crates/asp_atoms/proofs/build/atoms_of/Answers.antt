use Rattle.std.proofs.Common.{◌*◌, ap, arith, ℕ}
use Rattle.asp_atoms.proofs.Loops.{pow_fits}
use Rattle.asp_atoms.proofs.build.atoms_of.Goals as goal

pub overflow_mul-count : goal.overflow_mul-count
overflow_mul-count c =
    let i = ap (λ (n : ℕ). n * c.args.size) c.loop-place.invariant in
    let h = pow_fits c.args.size c.loop-place._place c.args.arity (omega arith) c.requires in
    omega (arith, i, h)
