use Rattle.asp_defs.proofs.TextReadings as readings
use Rattle.asp_defs.proofs.laws_text.a_text_with_strong_negation.Goals as goal

pub returns : goal.returns
returns c = readings.strong_text_is_read
