use Rattle.asp_defs.proofs.HistoryLaws as laws
use Rattle.asp_defs.proofs.laws.prefixes_are_legal.Goals as goal

pub returns : goal.returns
returns c = laws.prefixes_are_legal
