use Rattle.std.proofs.Common.{◌∷◌}
use Rattle.asp_defs.specs.Lists.{IsIn}
use Rattle.asp_safety.specs.Variables.{term_of, terms_of}
use Rattle.asp_safety.proofs.representatives.shortest.Given as goal

abbrev pub invariant-loop-variable : goal.invariant-loop-variable
invariant-loop-variable l = IsIn (term_of l.best) (term_of l.first ∷ terms_of l.others)
