use Rattle.asp_grammar.proofs.Answered.{every_text_is_answered}
use Rattle.asp_top.proofs.Existence.{answers_exist_where}
use Rattle.asp_top.proofs.laws.answers_exist.Goals as goal

pub returns : goal.returns
returns c = answers_exist_where every_text_is_answered
