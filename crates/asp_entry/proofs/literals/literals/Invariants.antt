use Rattle.std.proofs.Common.{◌≡◌, take}
use Rattle.asp_bits.specs.Places.{true_places}
use Rattle.asp_entry.proofs.CubeLiterals.{literals}
use Rattle.asp_entry.proofs.literals.literals.Given as goal

-- the literals of the places so far
abbrev pub invariant-loop-atom : goal.invariant-loop-atom
invariant-loop-atom l = l.lits.items ≡ literals (true_places l.set) (take l.atom l.atoms)
