use Rattle.std.proofs.Common.{◌≡◌, ◌^◌}
use Rattle.asp_atoms.proofs.build.atoms_of.Given as goal

abbrev pub invariant-loop-place : goal.invariant-loop-place
invariant-loop-place l = l.count ≡ l.size ^ l._place
