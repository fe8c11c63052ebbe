use Rattle.asp_atoms.proofs.Assembling.{base_atoms_ascend}
use Rattle.asp_atoms.proofs.laws.bases_ascend.Goals as goal

pub returns : goal.returns
returns c = base_atoms_ascend
