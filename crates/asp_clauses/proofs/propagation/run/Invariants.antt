use Rattle.std.proofs.Common.{◌≡◌, ◌+◌, ◌-◌, length}
use Rattle.asp_clauses.specs.Visits.{Propagates}
use Rattle.asp_clauses.proofs.propagation.run.Given as goal

abbrev pub invariant-examining : goal.invariant-examining
invariant-examining l = Propagates l.fn.watches l.watches l.fn.trail l.trail

abbrev pub decreases-examining : goal.decreases-examining
decreases-examining l = length l.watches.records - l.watches.watched

abbrev pub invariant-visiting : goal.invariant-visiting
invariant-visiting l = Propagates l.fn.watches l.watches l.fn.trail l.trail × (l.watches.watched ≡ length l.watches.records)

abbrev pub decreases-visiting : goal.decreases-visiting
decreases-visiting l = l.trail.atoms + 1 - l.trail.head
