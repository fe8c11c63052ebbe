use Rattle.asp_top.proofs.Unique as laws
use Rattle.asp_top.proofs.laws.enough_settles.Goals as goal

pub returns : goal.returns
returns c = laws.enough_settles
