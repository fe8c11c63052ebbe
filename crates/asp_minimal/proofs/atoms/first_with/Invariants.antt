use Rattle.std.proofs.Common.{◌≡◌, true, not, ◌&&◌, take}
use Rattle.std.specs.List.{list_all}
use Rattle.asp_bits.specs.Places.{true_places}
use Rattle.asp_defs.specs.Interpretations.{holds}
use Rattle.asp_minimal.specs.Numbers.{has_value}
use Rattle.asp_minimal.proofs.atoms.first_with.Given as goal

-- no atom so far is one
abbrev pub invariant-loop-atom : goal.invariant-loop-atom
invariant-loop-atom l = list_all (λ a. not (holds (true_places l.set) a && has_value l.value (holds (true_places l.part) a))) (take l.atom-index l.atoms) ≡ true
