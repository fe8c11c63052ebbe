use Rattle.asp_lex.proofs.Signs.{minus_front}
use Rattle.asp_lex.proofs.pieces.lone_minus.Goals as goal

pub returns : goal.returns
returns c = minus_front c.args.rest.now c.requires
