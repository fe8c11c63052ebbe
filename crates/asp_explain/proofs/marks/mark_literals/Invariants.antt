use Rattle.std.proofs.Common.{take}
use Rattle.asp_bits.specs.Places.{true_places}
use Rattle.asp_explain.specs.Achieving.{MarksLiterals}
use Rattle.asp_explain.proofs.marks.mark_literals.Given as goal

-- those of the atoms so far that are outer ones are marked
abbrev pub invariant-loop-lit : goal.invariant-loop-lit
invariant-loop-lit l = MarksLiterals (true_places l.outer) (take l.lit-index l.lits) l.fn.marks l.marks
