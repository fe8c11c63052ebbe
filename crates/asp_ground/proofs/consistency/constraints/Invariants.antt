use Rattle.std.proofs.Common.{◌≡◌, map, take}
use Rattle.asp_defs.specs.Consistency.{consistency_constraint}
use Rattle.asp_atoms.specs.Signatures.{predicates_of}
use Rattle.asp_ground.proofs.consistency.constraints.Given as goal

-- the constraints so far
abbrev pub invariant-loop-signature : goal.invariant-loop-signature
invariant-loop-signature l = l.rules ≡ map consistency_constraint (predicates_of (take l.signature-index l.signature-items))
