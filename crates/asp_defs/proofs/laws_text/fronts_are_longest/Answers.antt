use Rattle.asp_defs.proofs.Pieces as texts
use Rattle.asp_defs.proofs.laws_text.fronts_are_longest.Goals as goal

pub returns : goal.returns
returns c = texts.fronts_are_longest
