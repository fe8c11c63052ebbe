use Rattle.std.proofs.Common.{◌≡◌, min, take}
use Rattle.asp_completion.specs.AtOnce.{pairs}
use Rattle.asp_completion.proofs.bounding.are_few.Given as goal

-- the pairs of the bounds so far
abbrev pub invariant-loop-bound : goal.invariant-loop-bound
invariant-loop-bound l = l.count ≡ min 20001 (pairs (take l.bound-index l.bounds))
