use Rattle.std.proofs.Common.{arith, codes, ◌++◌}
use Rattle.asp_defs.specs.Sets.{const_text}
use Rattle.asp_sets.proofs.Ends.{each_none}
use Rattle.asp_sets.proofs.suffix.before_each.Goals as goal

pub returns-in_err-left : goal.returns-in_err-left
returns-in_err-left c =
    each_none (λ x. codes "," ++ const_text x) c.args.constants.now c.args.text.now c.loop-at.left.now c.loop-at.at c.index-constants-at.result c.from_residual.result
    (omega arith) (omega arith) c.index-constants-at.is c.loop-at.invariant c.in_err-left.ensures c.from_residual.ensures
