use Rattle.std.proofs.Common.{◌≡◌, map, take}
use Rattle.asp_ground.specs.BoundTemplates.{element_template}
use Rattle.asp_ground.proofs.bounds.element_templates.Given as goal

abbrev pub invariant-loop-element : goal.invariant-loop-element
invariant-loop-element l =
    l.templates.items ≡ map (element_template l.vocabulary l.body) (take l.element-index l.elements)
