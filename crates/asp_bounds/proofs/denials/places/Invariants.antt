use Rattle.std.proofs.Common.{take}
use Rattle.asp_bounds.specs.Denials.{ArePlaces}
use Rattle.asp_bounds.proofs.denials.places.Given as goal

-- the atoms so far are marked
abbrev pub invariant-loop-atom : goal.invariant-loop-atom
invariant-loop-atom l = ArePlaces l.count (take l.atom-index l.atoms) l.marks
