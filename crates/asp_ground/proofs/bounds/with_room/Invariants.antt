use Rattle.std.proofs.Common.{◌≡◌, ◌++◌, replicate}
use Rattle.asp_ground.proofs.bounds.with_room.Given as goal

-- the ranks, and so many zeros
abbrev pub invariant-loop-place : goal.invariant-loop-place
invariant-loop-place l = l.all.items ≡ l.ranks ++ replicate l._place 0
