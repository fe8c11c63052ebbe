use Rattle.std.proofs.Common.{true, take}
use Rattle.asp_entry.specs.Marks.{Marks}
use Rattle.asp_entry.proofs.marks.places.Given as goal

-- the atoms so far are marked
abbrev pub invariant-loop-atom : goal.invariant-loop-atom
invariant-loop-atom l = Marks (λ a. true) (take l.atom-index l.atoms) l.initial.places l.places
