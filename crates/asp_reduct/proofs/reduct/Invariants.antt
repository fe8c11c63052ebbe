use Rattle.std.proofs.Common.{◌≡◌, take}
use Rattle.asp_bits.specs.Places.{true_places}
use Rattle.asp_defs.specs.Reduct.{reduct}
use Rattle.asp_reduct.proofs.reduct.Given as goal

-- the reduct of the rules so far
abbrev pub invariant-loop-rule : goal.invariant-loop-rule
invariant-loop-rule l = l.parts ≡ reduct (take l.rule-index l.rules) (true_places l.set)
