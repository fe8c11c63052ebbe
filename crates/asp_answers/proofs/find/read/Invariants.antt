use Rattle.std.proofs.Common.{length}
use Rattle.asp_completion.specs.Levels.{game_at, upper}
use Rattle.asp_answers.proofs.Reading.{IsReadTo}
use Rattle.asp_answers.proofs.find.read.Given as goal

-- the part of the base before this place was read
abbrev pub invariant-loop-place : goal.invariant-loop-place
invariant-loop-place l =
    IsReadTo (upper l.level) (length (game_at l.level).bases.atoms) l.search.trail l.set l.place
