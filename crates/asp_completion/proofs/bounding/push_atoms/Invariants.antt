use Rattle.std.proofs.Common.{◌≡◌, ◌++◌, map, take}
use Rattle.asp_completion.specs.Codes.{literal}
use Rattle.asp_completion.proofs.bounding.push_atoms.Given as goal

-- the literals of the atoms so far
abbrev pub invariant-loop-atom : goal.invariant-loop-atom
invariant-loop-atom l = l.clause.items ≡ l.initial.clause.items ++ map (literal l.positive) (take l.atom-index l.atoms)
