use Rattle.std.proofs.Common.{◌≡◌, ◌++◌, map, take}
use Rattle.asp_bits.specs.Places.{true_places}
use Rattle.asp_defs.specs.Interpretations.{holds}
use Rattle.asp_completion.specs.Codes.{code, literal}
use Rattle.asp_completion.specs.Levels.{upper}
use Rattle.asp_answers.proofs.question.push_outer.Given as goal

-- the codes of the outer literals so far
abbrev pub invariant-loop-atom : goal.invariant-loop-atom
invariant-loop-atom l =
    l.assumed.items
    ≡ l.fn.assumed.items
    ++ map (λ a. code (upper l.level) (literal (holds (true_places l.outer) a) a)) (take l.atom-index l.base)
