use Rattle.asp_check.proofs.Checkable.{program_is_checkable}
use Rattle.asp_check.proofs.laws.programs_are_checkable.Goals as goal

pub returns : goal.returns
returns c = program_is_checkable
