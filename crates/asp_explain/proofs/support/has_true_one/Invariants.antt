use Rattle.std.proofs.Common.{◌≡◌, ◌&&◌, false, take}
use Rattle.std.specs.List.{list_any}
use Rattle.asp_bits.specs.Places.{true_places}
use Rattle.asp_defs.specs.Interpretations.{holds}
use Rattle.asp_defs.specs.History.{agrees}
use Rattle.asp_explain.proofs.support.has_true_one.Given as goal

-- no atom so far is one
abbrev pub invariant-loop-atom : goal.invariant-loop-atom
invariant-loop-atom l = list_any (λ a. holds (true_places l.set) a && agrees l.wanted (holds (true_places l.founded) a)) (take l.atom-index l.atoms) ≡ false
