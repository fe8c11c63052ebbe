use Rattle.std.proofs.Common.{◌≡◌, ◌++◌, map, take}
use Rattle.asp_completion.specs.Codes.{code}
use Rattle.asp_completion.specs.Levels.{upper}
use Rattle.asp_completion.proofs.clauses.push_literals.Given as goal

-- the codes of the literals so far
abbrev pub invariant-loop-literal : goal.invariant-loop-literal
invariant-loop-literal l =
    l.clause.items ≡ l.initial.clause.items ++ map (code (upper l.level)) (take l.literal-index l.literals)
