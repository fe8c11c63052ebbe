use Rattle.std.proofs.Common.{◌≡◌, take}
use Rattle.asp_plain.specs.Masks.{own_bits}
use Rattle.asp_plain.proofs.masks.own_bits.Given as goal

-- the own bits of the base so far
abbrev pub invariant-loop-atom : goal.invariant-loop-atom
invariant-loop-atom l = l.own ≡ own_bits l.lower (take l.atom-index l.base)
