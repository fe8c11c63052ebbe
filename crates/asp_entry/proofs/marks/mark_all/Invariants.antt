use Rattle.std.proofs.Common.{take}
use Rattle.asp_bits.specs.Places.{true_places}
use Rattle.asp_defs.specs.Interpretations.{holds}
use Rattle.asp_entry.specs.Marks.{Marks}
use Rattle.asp_entry.proofs.marks.mark_all.Given as goal

-- those of the atoms so far that are outer ones are marked
abbrev pub invariant-loop-atom : goal.invariant-loop-atom
invariant-loop-atom l = Marks (holds (true_places l.outer)) (take l.atom-index l.atoms) l.fn.marks l.marks
