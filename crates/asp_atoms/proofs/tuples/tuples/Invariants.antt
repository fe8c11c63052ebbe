use Rattle.std.proofs.Common.{◌≡◌, replicate}
use Rattle.asp_defs.specs.Bases.{product}
use Rattle.asp_atoms.proofs.tuples.tuples.Given as goal

abbrev pub invariant-loop-place : goal.invariant-loop-place
invariant-loop-place l = l.tuples.items ≡ product (replicate l._place l.constants)
