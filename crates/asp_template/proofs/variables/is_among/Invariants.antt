use Rattle.std.proofs.Common.{◌≡◌, false, map, take}
use Rattle.asp_defs.specs.Safety.{is_variable_of}
use Rattle.asp_safety.specs.Variables.{term_of}
use Rattle.asp_template.proofs.variables.is_among.Given as goal

abbrev pub invariant-loop-other : goal.invariant-loop-other
invariant-loop-other l = is_variable_of (map term_of (take l.other-index l.variables)) (term_of l.variable) ≡ false
