use Rattle.std.proofs.Common.{◌≡◌, take}
use Rattle.asp_bits.specs.Places.{true_places}
use Rattle.asp_node.proofs.adding.true_atoms.Given as goal

abbrev pub invariant-loop-atom : goal.invariant-loop-atom
invariant-loop-atom l = l.atoms ≡ true_places (take l.atom l.set)
