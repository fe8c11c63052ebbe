use Rattle.std.proofs.Common.{take}
use Rattle.asp_search.specs.Analysis.{IsTopLevel}
use Rattle.asp_search.proofs.analyze.conflict_level.Given as goal

abbrev pub invariant-loop-literal : goal.invariant-loop-literal
invariant-loop-literal l = IsTopLevel l.trail.steps (take l.literal-index l.literal-items) l.most
