use Rattle.std.proofs.Common.{◌≡◌}
use Rattle.store_tests.specs.Games.{two_choices}
use Rattle.store_tests.proofs.shelves.looks_are_right.Given as goal

-- the game stays
abbrev pub invariant-loop-one : goal.invariant-loop-one
invariant-loop-one l = l.own.game ≡ two_choices
