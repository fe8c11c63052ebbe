use Rattle.asp_check.proofs.Checkable.{text_is_checkable}
use Rattle.asp_check.proofs.laws.texts_are_checkable.Goals as goal

pub returns : goal.returns
returns c = text_is_checkable
