use Rattle.std.proofs.Common.{◌≡◌, false, take}
use Rattle.asp_minimal.specs.Numbers.{written}
use Rattle.level_tests.proofs.minimality.clear.Given as goal

-- the places so far are false
abbrev pub invariant-loop-atom : goal.invariant-loop-atom
invariant-loop-atom l = l.bits ≡ written false l.fn.bits (take l.atom-index l.atoms)
