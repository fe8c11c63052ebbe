use Rattle.std.proofs.Common.{◌≡◌, ◌++◌, map, take}
use Rattle.std.specs.List.{flat_map}
use Rattle.asp_atoms.specs.Universes.{term_intervals}
use Rattle.asp_atoms.proofs.intervals.intervals_with.Given as goal

abbrev pub invariant-loop-term : goal.invariant-loop-term
invariant-loop-term l = l.intervals.items ≡ l.before ++ flat_map term_intervals (map (λ t. t.now) (take l.term-index l.terms))
