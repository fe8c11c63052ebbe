use Rattle.asp_defs.proofs.Pieces as texts
use Rattle.asp_defs.proofs.laws_text.longest_front_is.Goals as goal

pub returns : goal.returns
returns c = texts.longest_front_is
