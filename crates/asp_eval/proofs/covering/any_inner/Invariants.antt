use Rattle.std.proofs.Common.{◌≡◌, false, not, take}
use Rattle.std.specs.List.{list_any}
use Rattle.asp_bits.specs.Places.{true_places}
use Rattle.asp_defs.specs.Interpretations.{holds}
use Rattle.asp_eval.proofs.covering.any_inner.Given as goal

-- each atom so far is an outer one
abbrev pub invariant-loop-atom : goal.invariant-loop-atom
invariant-loop-atom l = list_any (λ a. not (holds (true_places l.outer) a)) (take l.atom-index l.atoms) ≡ false
