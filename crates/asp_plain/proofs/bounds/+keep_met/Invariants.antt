use Rattle.asp_plain.proofs.bounds.+keep_met.Given as goal

abbrev pub decreases-keep_met : goal.decreases-keep_met
decreases-keep_met l = l.rest
