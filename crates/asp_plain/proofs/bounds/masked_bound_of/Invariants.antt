use Rattle.std.proofs.Common.{◌≡◌, map, take}
use Rattle.asp_plain.specs.MaskedBounds.{masked_term}
use Rattle.asp_plain.proofs.bounds.masked_bound_of.Given as goal

-- the terms so far
abbrev pub invariant-loop-term : goal.invariant-loop-term
invariant-loop-term l = l.counted.items ≡ map masked_term (take l.term-index l.term-items)
