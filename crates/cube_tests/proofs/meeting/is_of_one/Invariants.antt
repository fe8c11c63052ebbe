use Rattle.std.proofs.Common.{◌≡◌, false, take}
use Rattle.std.specs.List.{list_any}
use Rattle.asp_bits.specs.Places.{true_places}
use Rattle.asp_defs.specs.Bounds.{counts}
use Rattle.cube_tests.proofs.meeting.is_of_one.Given as goal

-- no term so far counts the atom
abbrev pub invariant-loop-term : goal.invariant-loop-term
invariant-loop-term l = list_any (counts (true_places l.set) l.atom) (take l.term-index l.terms) ≡ false
