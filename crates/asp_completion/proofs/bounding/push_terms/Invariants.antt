use Rattle.std.proofs.Common.{◌≡◌, ◌++◌, true, map, take}
use Rattle.asp_completion.specs.Codes.{literal}
use Rattle.asp_completion.proofs.bounding.push_terms.Given as goal

-- the atoms of the terms so far
abbrev pub invariant-loop-term : goal.invariant-loop-term
invariant-loop-term l = l.clause.items ≡ l.initial.clause.items ++ map (λ c. literal true c.atom) (take l.term-index l.terms)
