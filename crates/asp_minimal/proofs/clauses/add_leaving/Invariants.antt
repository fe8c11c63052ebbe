use Rattle.std.proofs.Common.{◌≡◌, false, take}
use Rattle.std.specs.List.{flat_map}
use Rattle.asp_minimal.specs.Demands.{literals_of}
use Rattle.asp_minimal.proofs.clauses.add_leaving.Given as goal

-- the literals of the numbers so far
abbrev pub invariant-loop-number : goal.invariant-loop-number
invariant-loop-number l = l.clause.items ≡ flat_map (literals_of false) (take l.number-index l.numbers)
