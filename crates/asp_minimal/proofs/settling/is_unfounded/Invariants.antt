use Rattle.std.proofs.Common.{◌≡◌, true, take}
use Rattle.asp_bits.specs.Places.{true_places}
use Rattle.asp_defs.specs.Unfounded.{is_unfounded}
use Rattle.asp_minimal.proofs.settling.is_unfounded.Given as goal

-- no rule so far supports the part
abbrev pub invariant-loop-rule : goal.invariant-loop-rule
invariant-loop-rule l = is_unfounded (take l.rule-index l.rules) (true_places l.set) (true_places l.part) ≡ true
