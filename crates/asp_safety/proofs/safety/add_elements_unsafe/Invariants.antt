use Rattle.std.proofs.Common.{◌≡◌, ◌++◌, take}
use Rattle.std.specs.List.{flat_map}
use Rattle.asp_safety.specs.Variables.{terms_of}
use Rattle.asp_safety.specs.Safe.{element_unsafe}
use Rattle.asp_safety.proofs.safety.add_elements_unsafe.Given as goal

abbrev pub invariant-loop-element : goal.invariant-loop-element
invariant-loop-element l =
    terms_of l.out.items ≡ terms_of l.fn.out.items ++ flat_map (element_unsafe l.body) (take l.element-index l.elements)
