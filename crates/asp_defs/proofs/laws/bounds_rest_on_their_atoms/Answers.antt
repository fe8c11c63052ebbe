use Rattle.asp_defs.proofs.BoundLaws as laws
use Rattle.asp_defs.proofs.laws.bounds_rest_on_their_atoms.Goals as goal

pub returns : goal.returns
returns c = laws.bounds_rest_on_their_atoms
