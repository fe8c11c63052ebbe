use Rattle.std.proofs.Common.{◌≡◌, [], map, replicate}
use Rattle.asp_store.proofs.positions.no_positions.Given as goal

-- there is an empty list for each level so far
abbrev pub invariant-loop-level : goal.invariant-loop-level
invariant-loop-level l = map (λ v. v.items) l.levels.items ≡ replicate l._level []
