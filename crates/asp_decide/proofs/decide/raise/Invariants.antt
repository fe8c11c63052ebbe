use Rattle.std.proofs.Common.{◌<◌, length}
use Rattle.asp_decide.specs.DecisionHeap.{AreAtoms}
use Rattle.asp_decide.proofs.decide.raise.Given as goal

abbrev pub invariant-loop-at : goal.invariant-loop-at
invariant-loop-at l = (l.at < length l.heap) × AreAtoms (length l.places) l.heap

abbrev pub decreases-loop-at : goal.decreases-loop-at
decreases-loop-at l = l.at
