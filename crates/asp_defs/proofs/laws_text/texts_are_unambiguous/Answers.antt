use Rattle.asp_defs.proofs.TextsApart as texts
use Rattle.asp_defs.proofs.laws_text.texts_are_unambiguous.Goals as goal

pub returns : goal.returns
returns c = texts.texts_are_unambiguous
