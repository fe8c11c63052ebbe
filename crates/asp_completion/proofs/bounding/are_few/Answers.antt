use Rattle.std.proofs.Common.{◌+◌, take}
use Rattle.asp_completion.specs.AtOnce.{pairs, pairs_of}
use Rattle.asp_completion.proofs.BoundSteps.{pairs-more, few-more}
use Rattle.asp_completion.proofs.bounding.are_few.Goals as goal

pub loop-bound-preserved : goal.loop-bound-preserved
loop-bound-preserved c =
    let bounds = c.args.bounds.now in
    let k = c.loop-bound.bound-index in
    let b = c.bound-item.result in
    few-more (pairs (take k bounds)) (pairs_of b) (pairs (take (k + 1) bounds)) c.loop-bound.count c.count_pairs.result c.saturating_add.result
    c.min-count.result c.loop-bound.invariant c.count_pairs.ensures (pairs-more bounds k b c.loop-bound-test.true c.bound-item.is)
    c.saturating_add.ensures c.min-count.ensures
