use Rattle.std.proofs.Common.{◌<◌, ◌*◌, ◌^◌, get_or, arith}
use Rattle.asp_walk.proofs.Lists.{get_is_in}
use Rattle.asp_atoms.proofs.members.shifted.Goals as goal

pub overflow_mul-rank : goal.overflow_mul-rank
overflow_mul-rank c =
    let h : get_or c.args.ranks.now c.loop-rank.rank-index 0 * c.args.weight < 2 ^ 32 =
    c.requires.multiples (get_or c.args.ranks.now c.loop-rank.rank-index 0) (get_is_in c.args.ranks.now c.loop-rank.rank-index 0 (omega arith)) in
    omega (arith, h)

pub add_shifted-requires : goal.add_shifted-requires
add_shifted-requires c = λ n i. c.requires.sums (get_or c.args.ranks.now c.loop-rank.rank-index 0) n (get_is_in c.args.ranks.now c.loop-rank.rank-index 0 (omega arith)) i
