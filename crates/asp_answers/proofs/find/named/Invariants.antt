use Rattle.std.proofs.Common.{ℕ, ◌≡◌, ◌<◌, false, length, get_or, take}
use Rattle.asp_answers.specs.Assumptions.{names}
use Rattle.asp_answers.proofs.find.named.Given as goal

-- the atoms that the codes so far name
abbrev pub invariant-loop-code : goal.invariant-loop-code
invariant-loop-code l =
    (length l.named ≡ l.atoms)
    × ((k : ℕ) → k < l.atoms → get_or l.named k false ≡ names (take l.code-index l.core) k)
