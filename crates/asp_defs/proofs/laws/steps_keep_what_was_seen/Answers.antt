use Rattle.asp_defs.proofs.MachineLaws as laws
use Rattle.asp_defs.proofs.laws.steps_keep_what_was_seen.Goals as goal

pub returns : goal.returns
returns c = laws.steps_keep_what_was_seen
