use Rattle.std.proofs.Common.{◌≤◌}
use Rattle.asp_search.proofs.activity.ClauseActivity.list.Given as goal

abbrev pub invariant-loop-place : goal.invariant-loop-place
invariant-loop-place l = (l.fn.self.total ≤ l.self-inside.total) × (l.fn.self.interval ≤ l.self-inside.interval)
