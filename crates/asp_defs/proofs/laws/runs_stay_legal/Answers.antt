use Rattle.asp_defs.proofs.MachineLaws as laws
use Rattle.asp_defs.proofs.laws.runs_stay_legal.Goals as goal

pub returns : goal.returns
returns c = laws.runs_stay_legal
