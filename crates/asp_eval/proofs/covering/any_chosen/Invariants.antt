use Rattle.std.proofs.Common.{◌≡◌, false, take}
use Rattle.asp_bits.specs.Places.{true_places}
use Rattle.asp_eval.specs.Covers.{has_chosen}
use Rattle.asp_eval.proofs.covering.any_chosen.Given as goal

-- no atom so far is one
abbrev pub invariant-loop-atom : goal.invariant-loop-atom
invariant-loop-atom l = has_chosen (true_places l.chosen) (true_places l.set) l.truth (take l.atom-index l.atoms) ≡ false
