use Rattle.std.proofs.Common.{take}
use Rattle.asp_completion.specs.Supporters.{body_literals}
use Rattle.asp_completion.specs.Chains.{rules_along}
use Rattle.asp_completion.proofs.Distributing.{DistributesSoFar}
use Rattle.asp_completion.proofs.completing.+distribute.Given as goal

abbrev pub decreases-distribute : goal.decreases-distribute
decreases-distribute l = l.chain.count

-- the clauses with the first of the body's literals were added
abbrev pub invariant-loop-place : goal.invariant-loop-place
invariant-loop-place l =
    DistributesSoFar l.level l.fn.clause.items (take l.place (body_literals l.rule)) (rules_along l.level l.heads l.others)
    l.fn.search l.search l.clause.items
