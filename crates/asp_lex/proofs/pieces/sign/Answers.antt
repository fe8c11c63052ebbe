use Rattle.asp_lex.proofs.Signs.{long_sign_front}
use Rattle.asp_lex.proofs.pieces.sign.Goals as goal

pub returns-in-Some : goal.returns-in-Some
returns-in-Some c = long_sign_front c.args.first c.args.rest.now c.in-Some.kind c.requires c.in-Some.ensures
