use Rattle.asp_clauses.proofs.UnwatchLemmas.{IsUnwatching-none, IsUnwatching-more}
use Rattle.asp_clauses.proofs.compact.unwatch_from.Goals as goal

pub loop-watches-init : goal.loop-watches-init
loop-watches-init c = IsUnwatching-none c.args.watches.now c.requires.watches

pub loop-watches-preserved : goal.loop-watches-preserved
loop-watches-preserved c = IsUnwatching-more c.args.watches.now c.loop-watches.watches c.unwatch.new.self c.loop-watches.invariant c.unwatch.ensures.watches c.unwatch.ensures.one_less
