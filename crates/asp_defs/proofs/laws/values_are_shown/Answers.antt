use Rattle.asp_defs.proofs.ShownLaws as laws
use Rattle.asp_defs.proofs.laws.values_are_shown.Goals as goal

pub returns : goal.returns
returns c = record { moves = laws.moves_are_shown; game = laws.values_are_shown }
