use Rattle.asp_defs.proofs.Fixing as laws
use Rattle.asp_defs.proofs.laws.moves_agree.Goals as goal

pub returns : goal.returns
returns c = laws.moves_agree
