use Rattle.std.proofs.Common.{◌≡◌, map, take}
use Rattle.asp_minimal.specs.Nogoods.{denied}
use Rattle.asp_minimal.proofs.blocking.denials.Given as goal

-- the literals of the atoms so far
abbrev pub invariant-loop-atom : goal.invariant-loop-atom
invariant-loop-atom l = l.clause.items ≡ map denied (take l.atom-index l.atoms)
