use Rattle.std.proofs.Common.{◌≡◌, ◌++◌, ◌∷◌, map, take}
use Rattle.asp_atoms.proofs.tuples.add_longer.Given as goal

abbrev pub invariant-loop-tuple : goal.invariant-loop-tuple
invariant-loop-tuple l = l.longer.items ≡ l.fn.longer.items ++ map (λ tuple. l.first ∷ tuple) (take l.tuple-index l.tuples)
