use Rattle.std.proofs.Common.{length}
use Rattle.asp_eval.proofs.Choosing.{part_none}
use Rattle.asp_eval.proofs.thinning.only_covers.Goals as goal

pub loop-rule-init : goal.loop-rule-init
loop-rule-init c = part_none c.args.chosen.now (length c.args.set.now) c.len.result c.in_ok-needed.needed c.in_ok-needed.ensures c.len.ensures
