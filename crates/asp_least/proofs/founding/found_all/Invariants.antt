use Rattle.asp_bits.specs.Places.{true_places}
use Rattle.asp_least.specs.Founding.{FoundsMore}
use Rattle.asp_least.proofs.founding.found_all.Given as goal

-- what was founded so far
abbrev pub invariant-loop : goal.invariant-loop
invariant-loop l = FoundsMore (true_places l.set) l.rules l.fn.left l.left
