use Rattle.asp_defs.proofs.SubsetLaws as laws
use Rattle.asp_defs.proofs.laws.sets_are_ordered.Goals as goal

pub returns : goal.returns
returns c = laws.sets_are_ordered
