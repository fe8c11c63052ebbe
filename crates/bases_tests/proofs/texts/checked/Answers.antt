use Rattle.asp_check.proofs.Checkable.{text_is_checkable}
use Rattle.bases_tests.proofs.texts.checked.Goals as goal

pub check-requires : goal.check-requires
check-requires c = text_is_checkable c.as_bytes-bytes.result.now c.in-Ok.program c.in-Ok.ensures.text
