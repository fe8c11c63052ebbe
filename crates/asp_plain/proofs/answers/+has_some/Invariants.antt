use Rattle.asp_plain.proofs.answers.+has_some.Given as goal

abbrev pub decreases-has_some : goal.decreases-has_some
decreases-has_some l = l.rest
