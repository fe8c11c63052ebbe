use Rattle.std.proofs.Common.{ℕ, ◌*◌, ap, arith}
use Rattle.asp_atoms.proofs.Loops.{sums_fit, multiples_fit, pow_fits}
use Rattle.asp_atoms.proofs.members.numbers.Goals as goal

pub shifted-requires-clause-sums : goal.shifted-requires-clause-sums
shifted-requires-clause-sums c =
    sums_fit c.args.first c.args.base c.args.arity c.loop-place._place c.loop-place.weight c.args.ranks.now c.loop-place.numbers.items c.as_slice.result.now
    (omega arith) c.requires.small c.requires.ranked c.loop-place.invariant.weight c.as_slice.ensures.value c.loop-place.invariant.same

pub shifted-requires-clause-multiples : goal.shifted-requires-clause-multiples
shifted-requires-clause-multiples c =
    multiples_fit c.args.first c.args.base c.args.arity c.loop-place._place c.loop-place.weight c.args.ranks.now
    (omega arith) c.requires.small c.requires.ranked c.loop-place.invariant.weight

pub overflow_mul-weight : goal.overflow_mul-weight
overflow_mul-weight c =
    let i = ap (λ (n : ℕ). n * c.args.base) c.loop-place.invariant.weight in
    let h = pow_fits c.args.base c.loop-place._place c.args.arity (omega arith) (let s = c.requires.small in omega (arith, s)) in
    omega (arith, i, h)
