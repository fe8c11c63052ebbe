use Rattle.std.proofs.Common.{vec_len, length, take, ◌≡◌}
use Rattle.asp_search.specs.Seen.{IsTable}
use Rattle.asp_search.proofs.seen.Seen.truncate.Given as goal

abbrev pub invariant-loop-self : goal.invariant-loop-self
invariant-loop-self l =
    (length l.self-inside.table.items ≡ length l.initial.self-inside.table.items) × IsTable l.self-inside.table.items l.self-inside.listed.items
    × (take l.count l.self-inside.listed.items ≡ take l.count l.initial.self-inside.listed.items)

abbrev pub decreases-loop-self : goal.decreases-loop-self
decreases-loop-self l = vec_len l.self-inside.listed
