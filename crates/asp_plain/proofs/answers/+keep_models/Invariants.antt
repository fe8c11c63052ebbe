use Rattle.asp_plain.proofs.answers.+keep_models.Given as goal

abbrev pub decreases-keep_models : goal.decreases-keep_models
decreases-keep_models l = l.rest
