use Rattle.asp_check.proofs.Checkable.{text_is_checkable}
use Rattle.text_tests.proofs.texts.program_of.Goals as goal

pub returns : goal.returns
returns c = text_is_checkable c.args.text.now c.in_ok-program.program c.in_ok-program.ensures.text
