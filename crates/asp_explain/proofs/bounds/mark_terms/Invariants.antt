use Rattle.std.proofs.Common.{take}
use Rattle.asp_bits.specs.Places.{true_places}
use Rattle.asp_explain.specs.Achieving.{MarksTerms}
use Rattle.asp_explain.proofs.bounds.mark_terms.Given as goal

-- what is marked for the terms so far
abbrev pub invariant-loop-term : goal.invariant-loop-term
invariant-loop-term l = MarksTerms (true_places l.outer) (take l.term-index l.terms) l.fn.marks l.marks
