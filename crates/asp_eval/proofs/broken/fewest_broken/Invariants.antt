use Rattle.asp_bits.specs.Places.{true_places}
use Rattle.asp_eval.proofs.Searching.{FoundSo}
use Rattle.asp_eval.proofs.broken.fewest_broken.Given as goal

-- what was found so far
abbrev pub invariant-loop-place : goal.invariant-loop-place
invariant-loop-place l = FoundSo (true_places l.set) l.rules l.place l.found
