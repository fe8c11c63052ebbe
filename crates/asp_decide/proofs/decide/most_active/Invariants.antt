use Rattle.std.proofs.Common.{◌≡◌}
use Rattle.asp_decide.proofs.decide.most_active.Given as goal

abbrev pub invariant-loop-atom : goal.invariant-loop-atom
invariant-loop-atom l = (l.heap.atoms ≡ l.initial.heap.atoms) × (l.heap.phases ≡ l.initial.heap.phases)

abbrev pub decreases-loop-atom : goal.decreases-loop-atom
decreases-loop-atom l = l.heap.waiting
