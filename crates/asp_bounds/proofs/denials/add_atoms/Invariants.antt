use Rattle.std.proofs.Common.{take, length}
use Rattle.asp_bits.specs.Places.{true_places}
use Rattle.asp_bounds.proofs.Denying.{HighSteps}
use Rattle.asp_bounds.proofs.denials.add_atoms.Given as goal

-- the atoms that the terms so far count are denied
abbrev pub invariant-loop-term : goal.invariant-loop-term
invariant-loop-term l = HighSteps l.bound (true_places l.set) l.atoms (length l.set) (take l.term-index l.terms) l.wanted l.clause.items
