use Rattle.std.proofs.Common.{◌≡◌}
use Rattle.store_tests.specs.Games.{two_choices}
use Rattle.store_tests.proofs.shelves.adds_are_right.Given as goal

-- the game stays
abbrev pub invariant-loop-named : goal.invariant-loop-named
invariant-loop-named l = l.own.game ≡ two_choices
