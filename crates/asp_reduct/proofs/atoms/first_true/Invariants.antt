use Rattle.std.proofs.Common.{◌≡◌, None, take}
use Rattle.std.specs.List.{find}
use Rattle.asp_bits.specs.Places.{true_places}
use Rattle.asp_defs.specs.Interpretations.{holds}
use Rattle.asp_reduct.proofs.atoms.first_true.Given as goal

-- no atom so far is true
abbrev pub invariant-loop-atom : goal.invariant-loop-atom
invariant-loop-atom l = find (holds (true_places l.set)) (take l.atom-index l.atoms) ≡ None
