use Rattle.std.proofs.Common.{take}
use Rattle.asp_completion.specs.Completions.{Completes}
use Rattle.asp_completion.specs.AtOnce.{atoms_of, HasNoTwo}
use Rattle.asp_completion.proofs.bounding.deny_pairs.Given as goal

-- the clauses say it of the terms so far
abbrev pub invariant-loop-place : goal.invariant-loop-place
invariant-loop-place l = Completes l.level (HasNoTwo l.bound (atoms_of (take l.place l.terms))) l.fn.search l.search
