use Rattle.asp_defs.proofs.EvidenceLaws as laws
use Rattle.asp_defs.proofs.laws.what_is_shown_is_right.Goals as goal

pub returns : goal.returns
returns c = record { verdicts = laws.shown_verdicts_are_right; sets = laws.shown_sets_are_right }
