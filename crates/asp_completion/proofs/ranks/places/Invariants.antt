use Rattle.std.proofs.Common.{ℕ, ◌≡◌, ◌<◌, length, get_or}
use Rattle.asp_completion.proofs.ranks.places.Given as goal

-- the table has the places of the atoms so far
abbrev pub invariant-loop-place : goal.invariant-loop-place
invariant-loop-place l =
    (length l.ranks.items ≡ l.atoms)
    × ((k : ℕ) → k < l.place → get_or l.ranks.items (get_or l.base k 0) 0 ≡ k)
