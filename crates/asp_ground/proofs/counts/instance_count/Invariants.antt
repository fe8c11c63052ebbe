use Rattle.std.proofs.Common.{◌≡◌, map, take}
use Rattle.std.specs.List.{sum_by, enumerate_from}
use Rattle.asp_defs.specs.declared.syntax.Part.{Part}
use Rattle.asp_atoms.specs.Counts.{shown}
use Rattle.asp_ground.specs.Counts.{level_count}
use Rattle.asp_ground.proofs.counts.instance_count.Given as goal

abbrev pub invariant-loop-place : goal.invariant-loop-place
invariant-loop-place l =
    l.count ≡ shown (sum_by (level_count l.universes) (enumerate_from 1 (map (λ (part : Part). part.rules) (take l.place l.levels))))
