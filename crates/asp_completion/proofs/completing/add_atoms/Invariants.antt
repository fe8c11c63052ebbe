use Rattle.std.proofs.Common.{take}
use Rattle.asp_completion.specs.Completions.{Completes, AreSupported}
use Rattle.asp_completion.proofs.completing.add_atoms.Given as goal

-- the clauses say it of the atoms so far
abbrev pub invariant-loop-atom : goal.invariant-loop-atom
invariant-loop-atom l = Completes l.level (AreSupported l.level (take l.atom-index l.base)) l.fn.search l.search
