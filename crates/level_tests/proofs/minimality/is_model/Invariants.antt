use Rattle.std.proofs.Common.{◌≡◌, true, take}
use Rattle.asp_bits.specs.Places.{true_places}
use Rattle.asp_defs.specs.Truth.{is_model}
use Rattle.level_tests.proofs.minimality.is_model.Given as goal

-- each rule so far is satisfied
abbrev pub invariant-loop-rule : goal.invariant-loop-rule
invariant-loop-rule l = is_model (true_places l.set) (take l.rule-index l.rules) ≡ true
