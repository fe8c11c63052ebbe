use Rattle.std.proofs.Common.{◌≡◌, take}
use Rattle.std.specs.List.{flat_map}
use Rattle.asp_ground.specs.BoundTemplates.{terms_at}
use Rattle.asp_ground.proofs.bounds.all_terms.Given as goal

-- the terms so far
abbrev pub invariant-loop-element : goal.invariant-loop-element
invariant-loop-element l = l.terms ≡ flat_map (terms_at l.size l.universe l.ranks) (take l.element-index l.elements)
