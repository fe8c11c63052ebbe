use Rattle.std.proofs.Common.{◌≡◌, ◌≤◌, not, length, take}
use Rattle.std.specs.List.{filter}
use Rattle.asp_bits.specs.Places.{true_places}
use Rattle.asp_defs.specs.Interpretations.{holds}
use Rattle.asp_pages.proofs.parting.count_false.Given as goal

-- the false atoms so far
abbrev pub invariant-loop-atom : goal.invariant-loop-atom
invariant-loop-atom l =
    (l.count ≡ length (filter (λ a. not (holds (true_places l.set) a)) (take l.atom-index l.base))) × (l.count ≤ l.atom-index)
