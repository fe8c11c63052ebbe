use Rattle.std.proofs.Common.{◌≡◌, true, take}
use Rattle.asp_bits.specs.Places.{true_places}
use Rattle.asp_defs.specs.Truth.{is_model}
use Rattle.cube_tests.proofs.answering.are_satisfied.Given as goal

-- the rules so far are satisfied
abbrev pub invariant-loop-rule : goal.invariant-loop-rule
invariant-loop-rule l = is_model (true_places l.set) (take l.rule-index l.rules) ≡ true
