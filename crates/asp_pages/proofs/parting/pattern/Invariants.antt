use Rattle.std.proofs.Common.{◌≡◌, ◌<◌, ◌≤◌, ◌-◌, ◌^◌, ◌++◌, drop}
use Rattle.asp_pages.proofs.Finding.{pattern_at}
use Rattle.asp_pages.proofs.parting.pattern.Given as goal

-- the literals so far, and the pattern of the atoms behind them that is left
abbrev pub invariant-loop-place : goal.invariant-loop-place
invariant-loop-place l =
    (l.half ≡ 2 ^ (l.fixed - l.place))
    × (l.left < l.half)
    × (l.place ≤ l.fixed)
    × (pattern_at l.split l.base l.at ≡ l.lits ++ pattern_at (l.split - l.place) (drop l.place l.base) l.left)
