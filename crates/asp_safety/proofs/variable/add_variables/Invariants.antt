use Rattle.std.proofs.Common.{◌≡◌, ◌++◌}
use Rattle.std.specs.List.{flat_map}
use Rattle.asp_defs.specs.Instances.{term_variables}
use Rattle.asp_safety.specs.Variables.{terms_of}
use Rattle.asp_safety.proofs.variable.add_variables.Given as goal

abbrev pub invariant-loop-term : goal.invariant-loop-term
invariant-loop-term l =
    terms_of l.out.items ++ flat_map term_variables l.term-iterator ≡ terms_of l.fn.out.items ++ flat_map term_variables l.fn.terms
