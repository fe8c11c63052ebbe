use Rattle.std.proofs.Common.{◌≡◌, ◌++◌, map, take}
use Rattle.asp_completion.specs.Codes.{code, literal}
use Rattle.asp_completion.specs.Levels.{upper}
use Rattle.asp_completion.proofs.clauses.push_atoms.Given as goal

-- the codes of the atoms so far
abbrev pub invariant-loop-atom : goal.invariant-loop-atom
invariant-loop-atom l =
    l.clause.items ≡ l.initial.clause.items ++ map (λ a. code (upper l.level) (literal l.positive a)) (take l.atom-index l.atoms)
