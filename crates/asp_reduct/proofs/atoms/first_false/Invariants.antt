use Rattle.std.proofs.Common.{◌≡◌, None, not, take}
use Rattle.std.specs.List.{find}
use Rattle.asp_bits.specs.Places.{true_places}
use Rattle.asp_defs.specs.Interpretations.{holds}
use Rattle.asp_reduct.proofs.atoms.first_false.Given as goal

-- no atom so far is false
abbrev pub invariant-loop-atom : goal.invariant-loop-atom
invariant-loop-atom l = find (λ a. not (holds (true_places l.set) a)) (take l.atom-index l.atoms) ≡ None
