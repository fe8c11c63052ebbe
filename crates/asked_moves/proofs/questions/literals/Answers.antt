use Rattle.std.proofs.Common.{get_or}
use Rattle.asp_defs.proofs.Subsets.{holds_from}
use Rattle.asp_reduct.proofs.Truths.{get_or-member}
use Rattle.asked_moves.proofs.questions.literals.Goals as goal

pub put_literal-requires-clause-member : goal.put_literal-requires-clause-member
put_literal-requires-clause-member c =
    holds_from c.args.base.now (get_or c.args.base.now c.loop-atom.atom-index 0)
    (get_or-member c.args.base.now c.loop-atom.atom-index 0 c.loop-atom-test.true)
