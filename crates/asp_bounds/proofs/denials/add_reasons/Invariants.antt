use Rattle.std.proofs.Common.{take, length}
use Rattle.asp_bits.specs.Places.{true_places}
use Rattle.asp_bounds.proofs.Denying.{LowSteps}
use Rattle.asp_bounds.proofs.denials.add_reasons.Given as goal

-- why the terms so far don't count
abbrev pub invariant-loop-term : goal.invariant-loop-term
invariant-loop-term l = LowSteps l.bound (true_places l.set) (length l.set) (take l.term-index l.terms) l.settled l.clause.items
