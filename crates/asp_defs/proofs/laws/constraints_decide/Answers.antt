use Rattle.asp_defs.proofs.LastLevel as laws
use Rattle.asp_defs.proofs.laws.constraints_decide.Goals as goal

pub returns : goal.returns
returns c = laws.constraints_decide
