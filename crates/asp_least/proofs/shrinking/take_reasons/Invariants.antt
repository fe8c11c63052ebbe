use Rattle.asp_least.specs.Parts.{IsPartOf}
use Rattle.asp_least.proofs.shrinking.take_reasons.Given as goal

-- what was taken so far is a part
abbrev pub invariant-loop-at : goal.invariant-loop-at
invariant-loop-at l = IsPartOf l.left l.small
