use Rattle.std.proofs.Common.{◌≡◌, length}
use Rattle.cube_bench.proofs.drawn.derive_once.Given as goal

-- as many places as at first
abbrev pub invariant-loop-rule : goal.invariant-loop-rule
invariant-loop-rule l = length l.set ≡ length l.fn.set
