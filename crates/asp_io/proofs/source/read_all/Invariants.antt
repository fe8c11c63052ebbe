use Rattle.std.proofs.Common.{◌≡◌, ◌-◌, ◌<◌, ◌≤◌, length}
use Rattle.std.specs.Io.KnownBytes.{Consumes}
use Rattle.asp_io.proofs.source.read_all.Given as goal

abbrev pub invariant-loop-chunk : goal.invariant-loop-chunk
invariant-loop-chunk g l =
    Consumes (g.S.Source.left l.fn.source) (g.S.Source.left l.source) l.taken.items
    × (length l.taken.items ≤ l.most)
    × (0 < length l.chunk.items)
    × (g.S.Source.faults l.source ≡ g.S.Source.faults l.fn.source)

abbrev pub decreases-loop-chunk : goal.decreases-loop-chunk
decreases-loop-chunk g l = l.most - length l.taken.items
