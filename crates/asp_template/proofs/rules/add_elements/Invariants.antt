use Rattle.std.proofs.Common.{◌≡◌, ◌++◌, take}
use Rattle.std.specs.List.{flat_map}
use Rattle.asp_template.specs.Variables.{found_element}
use Rattle.asp_template.specs.Compiled.{schema_instances}
use Rattle.asp_template.proofs.rules.add_elements.Given as goal

abbrev pub invariant-loop-element : goal.invariant-loop-element
invariant-loop-element l =
    l.out ≡ l.fn.out ++ flat_map (λ e. schema_instances l.vocabulary l.ranks (found_element l.body e)) (take l.element-index l.elements)
