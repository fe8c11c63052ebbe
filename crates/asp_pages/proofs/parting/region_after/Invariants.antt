use Rattle.std.proofs.Common.{◌≡◌, ◌++◌, drop}
use Rattle.asp_bits.specs.Places.{true_places}
use Rattle.asp_pages.proofs.Finding.{region_at}
use Rattle.asp_pages.proofs.parting.region_after.Given as goal

-- the literals so far, and the region of the atoms behind them that is left
abbrev pub invariant-loop-atom : goal.invariant-loop-atom
invariant-loop-atom l =
    region_at (true_places l.set) l.base l.initial.left ≡ l.lits ++ region_at (true_places l.set) (drop l.atom-index l.base) l.left
