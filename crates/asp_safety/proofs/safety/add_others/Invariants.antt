use Rattle.std.proofs.Common.{◌≡◌, ◌++◌, not, take}
use Rattle.std.specs.List.{filter}
use Rattle.asp_defs.specs.Safety.{is_variable_of}
use Rattle.asp_safety.specs.Variables.{terms_of}
use Rattle.asp_safety.proofs.safety.add_others.Given as goal

abbrev pub invariant-loop-variable : goal.invariant-loop-variable
invariant-loop-variable l =
    terms_of l.out.items
    ≡ terms_of l.fn.out.items
    ++ filter (λ v. not (is_variable_of (terms_of l.set.keys) v)) (terms_of (take l.variable-index l.variables))
