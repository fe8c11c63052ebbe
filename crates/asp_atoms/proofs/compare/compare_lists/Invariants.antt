use Rattle.std.proofs.Common.{◌≡◌, ◌≤◌, length, drop}
use Rattle.std.specs.Cmp.Lexicographic.{slice_cmp}
use Rattle.asp_defs.specs.Constants.{const_cmp}
use Rattle.asp_atoms.proofs.compare.compare_lists.Given as goal

abbrev pub invariant-loop-at : goal.invariant-loop-at
invariant-loop-at l = record {
  within : l.at ≤ length l.right;
  same : slice_cmp const_cmp l.left l.right ≡ slice_cmp const_cmp (drop l.at l.left) (drop l.at l.right);
}
