use Rattle.std.proofs.Common.{◌≡◌, ◌+◌, ◌-◌, ◌≤◌, ◌++◌, length, drop}
use Rattle.asp_entry.specs.Cubes.{merged}
use Rattle.asp_entry.proofs.merge.merge.Given as goal

abbrev pub invariant-loop-mine : goal.invariant-loop-mine
invariant-loop-mine l =
    (l.mine ≤ length l.these)
    × (l.others ≤ length l.those)
    × (l.merged.items ++ merged (drop l.mine l.these) (drop l.others l.those) ≡ merged l.these l.those)
    × (8 ≤ l.merged.capacity)
    × (length l.merged.items ≤ l.mine + l.others)

abbrev pub decreases-loop-mine : goal.decreases-loop-mine
decreases-loop-mine l = (length l.these - l.mine) + (length l.those - l.others)
