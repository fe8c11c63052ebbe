use Rattle.std.proofs.Common.{take}
use Rattle.asp_safety.specs.Variables.{term_of, terms_of}
use Rattle.asp_safety.specs.Representatives.{Represents}
use Rattle.asp_safety.proofs.representatives.represent_each.Given as goal

abbrev pub invariant-loop-variable : goal.invariant-loop-variable
invariant-loop-variable l =
    Represents l.fn.representatives.entries l.representatives.entries (terms_of (take l.variable-index l.variables)) (term_of l.representative)
