use Rattle.asp_defs.proofs.CellLaws as laws
use Rattle.asp_defs.proofs.laws.cells_are_bounded.Goals as goal

pub returns : goal.returns
returns c = laws.cells_are_bounded
