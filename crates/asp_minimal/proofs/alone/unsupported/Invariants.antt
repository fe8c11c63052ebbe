use Rattle.std.proofs.Common.{take}
use Rattle.asp_bits.specs.Places.{true_places}
use Rattle.asp_minimal.specs.Alone.{AreAlone}
use Rattle.asp_minimal.proofs.alone.unsupported.Given as goal

-- what no rule so far supports alone
abbrev pub invariant-loop-rule : goal.invariant-loop-rule
invariant-loop-rule l = AreAlone (take l.rule-index l.rules) (true_places l.set) l.part l.alone
