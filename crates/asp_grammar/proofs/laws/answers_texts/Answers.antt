use Rattle.asp_grammar.proofs.Answered as answered
use Rattle.asp_grammar.proofs.laws.answers_texts.Goals as goal

pub returns : goal.returns
returns c = answered.answers_texts
