use Rattle.asp_defs.proofs.HistoryLaws as laws
use Rattle.asp_defs.proofs.laws.justified_is_sound.Goals as goal

pub returns : goal.returns
returns c = laws.justified_is_sound
