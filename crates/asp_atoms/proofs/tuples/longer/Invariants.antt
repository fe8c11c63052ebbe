use Rattle.std.proofs.Common.{◌≡◌, ◌∷◌, map, take}
use Rattle.std.specs.List.{flat_map}
use Rattle.asp_atoms.proofs.tuples.longer.Given as goal

abbrev pub invariant-loop-constant : goal.invariant-loop-constant
invariant-loop-constant l = l.longer.items ≡ flat_map (λ x. map (λ tuple. x ∷ tuple) l.tuples) (take l.constant-index l.constants)
