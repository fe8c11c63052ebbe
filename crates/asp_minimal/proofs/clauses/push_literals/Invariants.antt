use Rattle.std.proofs.Common.{◌≡◌, ◌++◌, take}
use Rattle.asp_minimal.specs.Demands.{literals_at}
use Rattle.asp_minimal.proofs.clauses.push_literals.Given as goal

-- the literals of the atoms so far are added
abbrev pub invariant-loop-atom : goal.invariant-loop-atom
invariant-loop-atom l = l.clause.items ≡ l.fn.clause.items ++ literals_at l.positive l.numbers (take l.atom-index l.atoms)
