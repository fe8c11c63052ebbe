use Rattle.asp_top.proofs.Unique as laws
use Rattle.asp_top.proofs.laws.answers_are_unique.Goals as goal

pub returns : goal.returns
returns c = record { refusals = laws.refusals_are_unique; done = laws.done_is_unique; statuses = laws.statuses_agree; outputs = laws.outputs_agree }
