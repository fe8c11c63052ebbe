use Rattle.std.proofs.Common.{◌≡◌}
use Rattle.asp_search.proofs.activity.ClauseActivity.keep_firm.Given as goal

abbrev pub invariant-loop-clause : goal.invariant-loop-clause
invariant-loop-clause l = (l.self-inside.total ≡ l.fn.self.total) × (l.self-inside.interval ≡ l.fn.self.interval)
