use Rattle.std.proofs.Common.{drop}
use Rattle.asp_completion.specs.Levels.{rules_at}
use Rattle.asp_completion.specs.Supporters.{supporters}
use Rattle.asp_completion.specs.Chains.{Headed}
use Rattle.asp_completion.proofs.heads.find_heads.Given as goal

-- the rules from the place on head the atoms of their heads
abbrev pub invariant-loop-place : goal.invariant-loop-place
invariant-loop-place l = Headed l.level (supporters (drop l.place (rules_at l.level))) l.heads
