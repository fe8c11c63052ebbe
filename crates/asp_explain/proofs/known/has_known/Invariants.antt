use Rattle.std.proofs.Common.{◌≡◌, false, take}
use Rattle.asp_bits.specs.Places.{true_places}
use Rattle.asp_explain.specs.Resting.{has_known}
use Rattle.asp_explain.proofs.known.has_known.Given as goal

-- no atom so far is one
abbrev pub invariant-loop-atom : goal.invariant-loop-atom
invariant-loop-atom l = has_known (true_places l.outer) (true_places l.marks) (true_places l.set) l.truth (take l.atom-index l.atoms) ≡ false
