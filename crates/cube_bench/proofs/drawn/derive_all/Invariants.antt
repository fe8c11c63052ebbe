use Rattle.std.proofs.Common.{◌≡◌, length}
use Rattle.cube_bench.proofs.drawn.derive_all.Given as goal

-- as many places as at first
abbrev pub invariant-loop : goal.invariant-loop
invariant-loop l = length l.set ≡ length l.fn.set
