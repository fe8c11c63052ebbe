use Rattle.std.proofs.Common.{◌≡◌, take}
use Rattle.asp_minimal.specs.Numbers.{written}
use Rattle.asp_minimal.proofs.numbers.write.Given as goal

-- the places so far are written
abbrev pub invariant-loop-atom : goal.invariant-loop-atom
invariant-loop-atom l = l.bits ≡ written l.value l.fn.bits (take l.atom-index l.atoms)
