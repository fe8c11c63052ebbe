use Rattle.asp_defs.proofs.TextEnds as ends
use Rattle.asp_defs.proofs.laws_text.programs_end.Goals as goal

pub returns : goal.returns
returns c = ends.programs_end
