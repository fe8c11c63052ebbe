use Rattle.std.proofs.Common.{take}
use Rattle.asp_bits.specs.Places.{true_places}
use Rattle.asp_entry.specs.Taken.{IsTaken}
use Rattle.asp_entry.proofs.preferences.first_of_truth.Given as goal

-- what was taken of the atoms so far
abbrev pub invariant-loop-atom : goal.invariant-loop-atom
invariant-loop-atom l = IsTaken (true_places l.set) l.truth (take l.atom-index l.atoms) l.fn.best l.best
