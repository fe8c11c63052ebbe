use Rattle.std.proofs.Common.{length}
use Rattle.verdict_tests.proofs.meaning.+value.Given as goal

-- the levels that are left
abbrev pub decreases-value : goal.decreases-value
decreases-value l = length l.levels.now
