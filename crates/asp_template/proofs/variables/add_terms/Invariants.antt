use Rattle.std.proofs.Common.{◌≡◌, map}
use Rattle.std.specs.List.{flat_map, fold}
use Rattle.asp_defs.specs.Instances.{term_variables}
use Rattle.asp_safety.specs.Variables.{term_of}
use Rattle.asp_template.specs.Variables.{with_variable}
use Rattle.asp_template.proofs.variables.add_terms.Given as goal

abbrev pub invariant-loop-term : goal.invariant-loop-term
invariant-loop-term l =
    fold with_variable (map term_of l.found.items) (flat_map term_variables l.term-iterator)
    ≡ fold with_variable (map term_of l.fn.found.items) (flat_map term_variables l.fn.terms)
