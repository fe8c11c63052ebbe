use Rattle.std.proofs.Common.{◌≡◌, None, take}
use Rattle.std.specs.List.{find}
use Rattle.asp_bits.specs.Places.{true_places}
use Rattle.asp_store.specs.Stores.{holds_there}
use Rattle.asp_store.proofs.positions.first_of.Given as goal

-- no entry so far holds the interpretation
abbrev pub invariant-loop-at : goal.invariant-loop-at
invariant-loop-at l = find (holds_there l.entries (true_places l.set)) (take l.at-index l.positions) ≡ None
