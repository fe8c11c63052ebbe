use Rattle.std.proofs.Common.{◌≡◌, ◌++◌, take}
use Rattle.std.specs.List.{flat_map}
use Rattle.asp_safety.specs.Variables.{terms_of}
use Rattle.asp_safety.specs.Bindings.{links_of}
use Rattle.asp_safety.specs.Representatives.{representative_links}
use Rattle.asp_safety.proofs.representatives.add_representatives.Given as goal

abbrev pub invariant-loop-variable : goal.invariant-loop-variable
invariant-loop-variable l =
    links_of l.links.items
    ≡ links_of l.fn.links.items ++ flat_map (representative_links l.representatives.entries) (terms_of (take l.variable-index l.variables))
