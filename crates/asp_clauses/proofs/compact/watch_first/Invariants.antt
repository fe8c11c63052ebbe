use Rattle.std.proofs.Common.{◌-◌}
use Rattle.asp_clauses.proofs.NumberedLemmas.{IsRewatching}
use Rattle.asp_clauses.proofs.compact.watch_first.Given as goal

abbrev pub invariant-loop-watches : goal.invariant-loop-watches
invariant-loop-watches l = IsRewatching l.fn.watches l.watches l.watched

abbrev pub decreases-loop-watches : goal.decreases-loop-watches
decreases-loop-watches l = l.watched - l.watches.watched
