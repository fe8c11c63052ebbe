use Rattle.std.proofs.Common.{◌≡◌, take}
use Rattle.std.specs.List.{fold}
use Rattle.asp_plain.specs.MaskedBounds.{with_term}
use Rattle.asp_plain.proofs.bounds.counted.Given as goal

-- the atoms of the terms so far
abbrev pub invariant-loop-term : goal.invariant-loop-term
invariant-loop-term l = l.atoms ≡ fold (with_term l.set) 0 (take l.term-index l.terms)
