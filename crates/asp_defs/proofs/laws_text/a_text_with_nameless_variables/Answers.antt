use Rattle.asp_defs.proofs.TextReadings as texts
use Rattle.asp_defs.proofs.laws_text.a_text_with_nameless_variables.Goals as goal

pub returns : goal.returns
returns c = texts.nameless_text_is_read
