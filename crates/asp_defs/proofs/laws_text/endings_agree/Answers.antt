use Rattle.asp_defs.proofs.Endings as laws
use Rattle.asp_defs.proofs.laws_text.endings_agree.Goals as goal

pub returns : goal.returns
returns c = record { agree = laws.endings_agree; refusals = laws.refusals_are_alone }
