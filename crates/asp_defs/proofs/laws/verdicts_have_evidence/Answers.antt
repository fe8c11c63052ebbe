use Rattle.asp_defs.proofs.EvidenceLaws as laws
use Rattle.asp_defs.proofs.laws.verdicts_have_evidence.Goals as goal

pub returns : goal.returns
returns c = laws.verdicts_have_evidence
