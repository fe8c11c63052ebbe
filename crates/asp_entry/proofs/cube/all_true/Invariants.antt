use Rattle.std.proofs.Common.{◌≡◌, true, take}
use Rattle.asp_bits.specs.Places.{true_places}
use Rattle.asp_defs.specs.Entries.{cube_holds}
use Rattle.asp_entry.proofs.cube.all_true.Given as goal

abbrev pub invariant-loop-lit : goal.invariant-loop-lit
invariant-loop-lit l = cube_holds (take l.lit-index l.lits) (true_places l.set) ≡ true
