use Rattle.std.proofs.Common.{◌≡◌, ◌++◌, map, take}
use Rattle.asp_bounds.specs.Terms.{literal}
use Rattle.asp_bounds.proofs.denials.push_literals.Given as goal

-- one literal of each atom so far
abbrev pub invariant-loop-atom : goal.invariant-loop-atom
invariant-loop-atom l = l.clause.items ≡ l.fn.clause.items ++ map (literal l.positive) (take l.atom-index l.atoms)
