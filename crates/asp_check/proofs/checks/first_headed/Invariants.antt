use Rattle.std.proofs.Common.{◌≡◌, ◌+◌, drop}
use Rattle.asp_defs.specs.ConstraintPart.{first_headed_from}
use Rattle.asp_check.proofs.checks.first_headed.Given as goal

abbrev pub invariant-loop-at : goal.invariant-loop-at
invariant-loop-at l = first_headed_from (l.before + 1) l.rules ≡ first_headed_from (l.before + l.at + 1) (drop l.at l.rules)
