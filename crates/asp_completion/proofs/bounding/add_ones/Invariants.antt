use Rattle.std.proofs.Common.{take}
use Rattle.asp_completion.specs.Completions.{Completes}
use Rattle.asp_completion.specs.AtOnce.{HaveOne}
use Rattle.asp_completion.proofs.bounding.add_ones.Given as goal

-- the clauses say it of the bounds so far
abbrev pub invariant-loop-bound : goal.invariant-loop-bound
invariant-loop-bound l = Completes l.level (HaveOne (take l.bound-index l.bounds)) l.fn.search l.search
