use Rattle.asp_defs.proofs.AnswerSetLaws as laws
use Rattle.asp_defs.proofs.laws.answer_sets_are_models.Goals as goal

pub returns : goal.returns
returns c = laws.answer_sets_are_models
