use Rattle.std.proofs.Common.{◌≡◌, length}
use Rattle.level_tests.proofs.minimality.interpretation.Given as goal

-- the interpretation keeps its length
abbrev pub invariant-loop-atom : goal.invariant-loop-atom
invariant-loop-atom l = length l.set ≡ l.len
