use Rattle.std.specs.Prelude.{Contains}
use Rattle.asp_plain.proofs.left.shortest.Given as goal

-- it is one of the rules
abbrev pub invariant-loop-rule : goal.invariant-loop-rule
invariant-loop-rule l = Contains l.fn.rules l.shortest
