use Rattle.std.proofs.Common.{ℕ, List}
use Rattle.asp_clauses.specs.Watches.{IsListed}
use Rattle.asp_clauses.proofs.UnwatchLemmas.{IsSeeking}
use Rattle.asp_clauses.proofs.watches.Watches.before.Given as goal

abbrev pub invariant-walk : goal.invariant-walk
invariant-walk l = (lists : ℕ → List ℕ) → IsListed l.self lists → IsSeeking lists l.literal l.clause l.previous l.other l._turn
