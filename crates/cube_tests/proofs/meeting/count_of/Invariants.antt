use Rattle.std.proofs.Common.{◌≡◌, ◌≤◌, length, take}
use Rattle.std.specs.List.{list_any, filter}
use Rattle.asp_bits.specs.Places.{true_places}
use Rattle.asp_defs.specs.Bounds.{counts}
use Rattle.cube_tests.proofs.meeting.count_of.Given as goal

-- how many of the places so far are counted
abbrev pub invariant-loop-atom : goal.invariant-loop-atom
invariant-loop-atom l =
    (l.count ≡ length (filter (λ a. list_any (counts (true_places l.set) a) l.terms) (true_places (take l.atom l.set)))) × (l.count ≤ l.atom)
