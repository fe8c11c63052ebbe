use Rattle.asp_least.proofs.PartLemmas.{part-more}
use Rattle.asp_least.proofs.shrinking.take.Goals as goal

pub returns : goal.returns
returns c =
    part-more c.args.left.now c.args.small.now c.set.new.self c.args.atom _ c.requires.part c.get-else-get.ensures c.if-not-get.false c.set.ensures

pub returns-in_err-push : goal.returns-in_err-push
returns-in_err-push c =
    part-more c.args.left.now c.args.small.now c.set.new.self c.args.atom _ c.requires.part c.get-else-get.ensures c.if-not-get.false c.set.ensures
