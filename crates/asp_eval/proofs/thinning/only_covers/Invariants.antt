use Rattle.std.proofs.Common.{length}
use Rattle.asp_eval.specs.Covering.{IsPart}
use Rattle.asp_eval.proofs.thinning.only_covers.Given as goal

-- some of the chosen atoms
abbrev pub invariant-loop-rule : goal.invariant-loop-rule
invariant-loop-rule l = IsPart l.chosen (length l.set) l.needed
