use Rattle.asp_grammar.proofs.Answered as answered
use Rattle.asp_grammar.proofs.laws.every_text_is_answered.Goals as goal

pub returns : goal.returns
returns c = answered.every_text_is_answered
