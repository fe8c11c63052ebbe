use Rattle.std.proofs.Common.{◌≡◌, map, take, Vec, Global}
use Rattle.asp_defs.specs.Consistency.{contradicted, consistency_constraint}
use Rattle.asp_atoms.specs.declared.signatures.Signature.{Signature}
use Rattle.asp_atoms.specs.Signatures.{predicates_of}
use Rattle.asp_ground.proofs.game.levels_constraints.Given as goal

-- the constraints so far
abbrev pub invariant-loop-predicates : goal.invariant-loop-predicates
invariant-loop-predicates l =
    l.all.items ≡ map (λ (s : Vec Signature Global). map consistency_constraint (contradicted (predicates_of s.items))) (take l.predicates-index l.predicates-items)
