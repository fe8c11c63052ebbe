use Rattle.asp_completion.proofs.bodies.+ways.Given as goal

abbrev pub decreases-ways : goal.decreases-ways
decreases-ways l = l.chain.count
