use Rattle.asp_defs.proofs.FoundedLaws as laws
use Rattle.asp_defs.proofs.laws.answer_sets_are_founded.Goals as goal

pub returns : goal.returns
returns c = laws.answer_sets_are_founded
