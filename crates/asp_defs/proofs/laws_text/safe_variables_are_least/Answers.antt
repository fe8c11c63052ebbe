use Rattle.asp_defs.proofs.SafetyLaws as safety
use Rattle.asp_defs.proofs.laws_text.safe_variables_are_least.Goals as goal

pub returns : goal.returns
returns c = safety.safe_variables_are_least
