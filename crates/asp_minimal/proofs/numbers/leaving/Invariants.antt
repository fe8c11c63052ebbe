use Rattle.std.proofs.Common.{◌≡◌, take}
use Rattle.asp_search.specs.Found.{assignment_of}
use Rattle.asp_minimal.specs.Numbers.{leaving_places}
use Rattle.asp_minimal.proofs.numbers.leaving.Given as goal

-- the atoms so far that leave
abbrev pub invariant-loop-atom : goal.invariant-loop-atom
invariant-loop-atom l = l.atoms.items ≡ leaving_places (assignment_of l.search.trail) (take l.atom l.numbers)
