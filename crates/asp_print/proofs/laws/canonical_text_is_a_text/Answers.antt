use Rattle.asp_print.proofs.ReprintedProgram as program
use Rattle.asp_print.proofs.laws.canonical_text_is_a_text.Goals as goal

pub returns : goal.returns
returns c = program.canonical_text_is_a_text
