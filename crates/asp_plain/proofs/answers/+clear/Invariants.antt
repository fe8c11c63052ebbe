use Rattle.asp_plain.proofs.answers.+clear.Given as goal

abbrev pub decreases-clear : goal.decreases-clear
decreases-clear l = l.rest
