use Rattle.std.proofs.Common.{◌≡◌, map, take}
use Rattle.std.specs.List.{flat_map}
use Rattle.asp_defs.specs.declared.syntax.Part.{Part}
use Rattle.asp_check.proofs.checks.all_rules.Given as goal

abbrev pub invariant-loop-level : goal.invariant-loop-level
invariant-loop-level l = map (λ r. r.now) l.rules.items ≡ flat_map (λ (part : Part). part.rules) (take l.level-index l.levels)
