use Rattle.asp_least.proofs.PartLemmas.{part-none}
use Rattle.asp_least.proofs.shrinking.part_with.Goals as goal

pub take-requires-clause-part : goal.take-requires-clause-part
take-requires-clause-part c = part-none c.args.left.now c.in_ok-small.small c.len.result c.len.ensures c.in_ok-small.ensures

pub returns-then-atom-len : goal.returns-then-atom-len
returns-then-atom-len c = part-none c.args.left.now c.in_ok-small.small c.len.result c.len.ensures c.in_ok-small.ensures
