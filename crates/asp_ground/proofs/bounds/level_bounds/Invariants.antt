use Rattle.std.proofs.Common.{◌≡◌, take, get_or, []}
use Rattle.std.specs.List.{flat_map}
use Rattle.asp_ground.specs.BoundTemplates.{compiled_bounds}
use Rattle.asp_ground.proofs.bounds.level_bounds.Given as goal

abbrev pub invariant-loop-rule : goal.invariant-loop-rule
invariant-loop-rule l =
    l.out ≡ flat_map (compiled_bounds l.vocabulary (get_or l.vocabulary.universes l.level [])) (take l.rule-index l.rules)
