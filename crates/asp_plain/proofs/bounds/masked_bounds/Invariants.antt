use Rattle.std.proofs.Common.{◌≡◌, map, take}
use Rattle.asp_plain.specs.MaskedBounds.{masked_bound}
use Rattle.asp_plain.proofs.bounds.masked_bounds.Given as goal

-- the bounds so far
abbrev pub invariant-loop-bound : goal.invariant-loop-bound
invariant-loop-bound l = l.all.items ≡ map masked_bound (take l.bound-index l.bounds)
