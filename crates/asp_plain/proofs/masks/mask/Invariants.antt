use Rattle.std.proofs.Common.{◌≡◌, take}
use Rattle.asp_plain.specs.Masks.{mask_of}
use Rattle.asp_plain.proofs.masks.mask.Given as goal

-- the mask has the atoms so far
abbrev pub invariant-loop-atom : goal.invariant-loop-atom
invariant-loop-atom l = l.mask ≡ mask_of (take l.atom-index l.atoms)
