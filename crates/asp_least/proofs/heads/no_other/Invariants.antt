use Rattle.std.proofs.Common.{◌≡◌, true, not, ◌&&◌, ◌∷◌, [], take}
use Rattle.std.specs.List.{list_all}
use Rattle.asp_bits.specs.Places.{true_places}
use Rattle.asp_defs.specs.Interpretations.{holds}
use Rattle.asp_least.proofs.heads.no_other.Given as goal

-- no atom so far is another true one
abbrev pub invariant-loop-other : goal.invariant-loop-other
invariant-loop-other l = list_all (λ a. not (holds (true_places l.set) a && not (holds (l.atom ∷ []) a))) (take l.other-index l.atoms) ≡ true
