use Rattle.std.proofs.Common.{◌≡◌, true, take}
use Rattle.asp_pages.specs.Regions.{are_below}
use Rattle.pages_tests.proofs.cuts.is_below.Given as goal

abbrev pub invariant-loop-atom : goal.invariant-loop-atom
invariant-loop-atom l = are_below l.count (take l.atom-index l.atoms) ≡ true
