use Rattle.asp_top.proofs.Reading as laws
use Rattle.asp_top.proofs.laws.words_agree.Goals as goal

pub returns : goal.returns
returns c = laws.words_agree
