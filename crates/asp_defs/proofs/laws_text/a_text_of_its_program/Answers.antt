use Rattle.asp_defs.proofs.TextReadings as readings
use Rattle.asp_defs.proofs.laws_text.a_text_of_its_program.Goals as goal

pub returns : goal.returns
returns c = readings.close_text_is_read
