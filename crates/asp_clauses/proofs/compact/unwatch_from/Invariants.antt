use Rattle.asp_clauses.proofs.UnwatchLemmas.{IsUnwatching}
use Rattle.asp_clauses.proofs.compact.unwatch_from.Given as goal

abbrev pub invariant-loop-watches : goal.invariant-loop-watches
invariant-loop-watches l = IsUnwatching l.fn.watches l.watches

abbrev pub decreases-loop-watches : goal.decreases-loop-watches
decreases-loop-watches l = l.watches.watched
