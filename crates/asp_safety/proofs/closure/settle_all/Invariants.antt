use Rattle.std.proofs.Common.{take}
use Rattle.asp_safety.specs.Variables.{terms_of}
use Rattle.asp_safety.specs.Closure.{Gathers}
use Rattle.asp_safety.proofs.closure.settle_all.Given as goal

abbrev pub invariant-loop-variable : goal.invariant-loop-variable
invariant-loop-variable l =
    Gathers (terms_of (take l.variable-index l.variables)) (terms_of l.safe.keys) (terms_of l.queue.items)
