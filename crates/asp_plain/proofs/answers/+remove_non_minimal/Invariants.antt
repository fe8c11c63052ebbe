use Rattle.std.proofs.Common.{◌+◌}
use Rattle.asp_plain.proofs.answers.+remove_non_minimal.Given as goal

-- the atoms that are open for either, as numbers
abbrev pub decreases-remove_non_minimal : goal.decreases-remove_non_minimal
decreases-remove_non_minimal l = l.rest + l.loose
