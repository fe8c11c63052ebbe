use Rattle.std.proofs.Common.{◌≡◌, take}
use Rattle.asp_bits.specs.Places.{true_places}
use Rattle.asp_answers.specs.Assumptions.{outer_part}
use Rattle.asp_completion.specs.Levels.{upper}
use Rattle.asp_answers.proofs.find.outer_part.Given as goal

-- the part of the outer literals so far
abbrev pub invariant-loop-atom : goal.invariant-loop-atom
invariant-loop-atom l =
    l.part ≡ outer_part (upper l.level) (take l.atom-index l.base) (true_places l.outer) l.core
