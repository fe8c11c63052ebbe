use Rattle.std.proofs.Common.{length}
use Rattle.asp_plain.proofs.sets.+add_won.Given as goal

abbrev pub decreases-add_won : goal.decreases-add_won
decreases-add_won l = length l.rest.now
