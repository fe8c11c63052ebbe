use Rattle.std.proofs.Common.{◌≤◌}
use Rattle.asp_eval.proofs.thinning.count_chosen.Given as goal

-- no more than there were atoms
abbrev pub invariant-loop-atom : goal.invariant-loop-atom
invariant-loop-atom l = l.count ≤ l.atom-index
