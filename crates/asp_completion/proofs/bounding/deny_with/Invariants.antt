use Rattle.std.proofs.Common.{take}
use Rattle.asp_completion.specs.Completions.{Completes}
use Rattle.asp_completion.specs.AtOnce.{atoms_of, NoneOfBoth}
use Rattle.asp_completion.proofs.bounding.deny_with.Given as goal

-- the clauses say it of the terms so far
abbrev pub invariant-loop-other : goal.invariant-loop-other
invariant-loop-other l = Completes l.level (NoneOfBoth l.bound l.first (atoms_of (take l.other-index l.others))) l.fn.search l.search
