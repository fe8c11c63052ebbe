use Rattle.std.proofs.Common.{take}
use Rattle.asp_bits.specs.Places.{true_places}
use Rattle.asp_explain.specs.Achieving.{KeepsBounds}
use Rattle.asp_explain.proofs.bounds.keep_bounds.Given as goal

-- what is marked for the bounds so far
abbrev pub invariant-loop-bound : goal.invariant-loop-bound
invariant-loop-bound l = KeepsBounds (true_places l.outer) (true_places l.set) (take l.bound-index l.bounds) l.fn.marks l.marks
