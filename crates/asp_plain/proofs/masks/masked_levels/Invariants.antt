use Rattle.std.proofs.Common.{◌≡◌, length}
use Rattle.asp_plain.specs.Levels.{AreMasked}
use Rattle.asp_plain.proofs.masks.masked_levels.Given as goal

-- the levels so far
abbrev pub invariant-loop-below : goal.invariant-loop-below
invariant-loop-below l = record {
  masked : AreMasked l.game 0 l.levels.items;
  number : length l.levels.items ≡ l.below;
}
