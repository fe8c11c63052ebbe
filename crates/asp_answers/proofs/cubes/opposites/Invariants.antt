use Rattle.std.proofs.Common.{◌≡◌, map, take}
use Rattle.asp_completion.specs.Codes.{opposite}
use Rattle.asp_answers.proofs.cubes.opposites.Given as goal

-- the other literals of those so far
abbrev pub invariant-loop-literal : goal.invariant-loop-literal
invariant-loop-literal l = l.others.items ≡ map opposite (take l.literal-index l.cube)
