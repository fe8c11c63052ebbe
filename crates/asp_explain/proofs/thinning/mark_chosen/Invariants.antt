use Rattle.std.proofs.Common.{take}
use Rattle.asp_bits.specs.Places.{true_places}
use Rattle.asp_explain.specs.Achieving.{MarksFew}
use Rattle.asp_explain.proofs.thinning.mark_chosen.Given as goal

-- what is marked of the atoms so far
abbrev pub invariant-loop-atom : goal.invariant-loop-atom
invariant-loop-atom l = MarksFew (true_places l.outer) (take l.atom-index l.atoms) l.fn.marks l.marks
