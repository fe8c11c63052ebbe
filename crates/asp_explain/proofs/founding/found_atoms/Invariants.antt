use Rattle.asp_bits.specs.Places.{true_places}
use Rattle.asp_explain.specs.Founding.{FoundsMore}
use Rattle.asp_explain.proofs.founding.found_atoms.Given as goal

-- what was founded so far
abbrev pub invariant-loop : goal.invariant-loop
invariant-loop l = FoundsMore (true_places l.outer) (true_places l.set) l.rules l.fn.marks l.fn.founded l.marks l.founded
