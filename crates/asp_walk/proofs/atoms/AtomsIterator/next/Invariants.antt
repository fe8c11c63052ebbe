use Rattle.std.proofs.Common.{◌≡◌, length}
use Rattle.std.specs.List.{flat_map}
use Rattle.asp_defs.specs.Limits.{literal_atoms}
use Rattle.asp_walk.proofs.atoms.AtomsIterator.next.Given as goal

abbrev pub invariant-loop-atom : goal.invariant-loop-atom
invariant-loop-atom l = flat_map literal_atoms l.self-inside.walk ≡ l.fn.self

abbrev pub decreases-loop-atom : goal.decreases-loop-atom
decreases-loop-atom l = length l.self-inside.walk
