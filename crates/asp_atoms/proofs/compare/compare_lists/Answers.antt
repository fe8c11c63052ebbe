use Rattle.std.proofs.Common.{◌∙◌, sym, arith}
use Rattle.asp_defs.specs.Constants.{const_cmp}
use Rattle.asp_atoms.proofs.Comparing.{compared_shorter}
use Rattle.asp_atoms.proofs.compare.compare_lists.Goals as goal

pub returns-then-left-right : goal.returns-then-left-right
returns-then-left-right c = sym (c.loop-at.invariant.same ∙ compared_shorter const_cmp c.args.left.now c.args.right.now c.loop-at.at (omega arith) (omega arith))
