use Rattle.asp_defs.proofs.Pieces as texts
use Rattle.asp_defs.proofs.laws_text.pieces_are_the_text.Goals as goal

pub returns : goal.returns
returns c = texts.pieces_are_the_text
