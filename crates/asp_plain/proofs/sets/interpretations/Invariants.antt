use Rattle.std.proofs.Common.{◌≡◌, map, take}
use Rattle.asp_plain.specs.Sets.{values_of}
use Rattle.asp_plain.proofs.sets.interpretations.Given as goal

-- the interpretations so far
abbrev pub invariant-loop-set : goal.invariant-loop-set
invariant-loop-set l = l.all ≡ map (values_of l.count) (take l.set-index l.sets)
