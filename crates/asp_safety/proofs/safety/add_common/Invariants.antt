use Rattle.std.proofs.Common.{◌≡◌, ◌++◌, take}
use Rattle.std.specs.List.{filter}
use Rattle.asp_defs.specs.Safety.{is_variable_of}
use Rattle.asp_safety.specs.Variables.{terms_of}
use Rattle.asp_safety.proofs.safety.add_common.Given as goal

abbrev pub invariant-loop-variable : goal.invariant-loop-variable
invariant-loop-variable l =
    terms_of l.out.items
    ≡ terms_of l.fn.out.items ++ filter (is_variable_of (terms_of l.set.keys)) (terms_of (take l.variable-index l.variables))
