use Rattle.std.proofs.Common.{◌<◌, ◌+◌, ◌^◌, get_or, arith}
use Rattle.asp_walk.proofs.Lists.{get_is_in}
use Rattle.asp_atoms.proofs.members.add_shifted.Goals as goal

pub overflow_add-distance : goal.overflow_add-distance
overflow_add-distance c =
    let h : c.args.distance + get_or c.args.numbers.now c.loop-number.number-index 0 < 2 ^ 32 =
    c.requires (get_or c.args.numbers.now c.loop-number.number-index 0) (get_is_in c.args.numbers.now c.loop-number.number-index 0 (omega arith)) in
    omega (arith, h)
