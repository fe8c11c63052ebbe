use Rattle.std.proofs.Common.{◌≡◌, length}
use Rattle.cube_bench.proofs.drawn.some_of.Given as goal

-- as many places as at first
abbrev pub invariant-loop-atom : goal.invariant-loop-atom
invariant-loop-atom l = length l.set ≡ l.count
