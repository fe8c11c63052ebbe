use Rattle.std.proofs.Common.{◌≡◌, drop}
use Rattle.std.specs.List.{find}
use Rattle.asp_defs.specs.Safety.{is_variable_of}
use Rattle.asp_safety.specs.Variables.{terms_of}
use Rattle.asp_safety.proofs.safety.first_of.Given as goal

abbrev pub invariant-loop-variable : goal.invariant-loop-variable
invariant-loop-variable l =
    find (is_variable_of (terms_of l.others)) (terms_of l.variables)
    ≡ find (is_variable_of (terms_of l.others)) (terms_of (drop l.variable-index l.variables))
