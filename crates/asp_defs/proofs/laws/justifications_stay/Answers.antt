use Rattle.asp_defs.proofs.HistoryLaws as laws
use Rattle.asp_defs.proofs.laws.justifications_stay.Goals as goal

pub returns : goal.returns
returns c = laws.justifications_stay
