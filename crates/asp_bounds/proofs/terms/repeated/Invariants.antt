use Rattle.std.proofs.Common.{◌≡◌, take}
use Rattle.asp_bits.specs.Places.{true_places}
use Rattle.asp_bounds.specs.Terms.{counted_terms}
use Rattle.asp_bounds.proofs.terms.repeated.Given as goal

-- the atoms of the terms so far
abbrev pub invariant-loop-term : goal.invariant-loop-term
invariant-loop-term l = l.atoms.items ≡ counted_terms (true_places l.set) (take l.term-index l.terms)
