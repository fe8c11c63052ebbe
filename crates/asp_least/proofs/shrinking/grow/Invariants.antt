use Rattle.asp_least.specs.Parts.{IsPartOf}
use Rattle.asp_least.proofs.shrinking.grow.Given as goal

-- what was taken so far is a part
abbrev pub invariant-loop : goal.invariant-loop
invariant-loop l = IsPartOf l.left l.small
