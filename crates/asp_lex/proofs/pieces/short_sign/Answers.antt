use Rattle.asp_lex.proofs.Signs.{short_sign_front, no_sign_front}
use Rattle.asp_lex.proofs.pieces.short_sign.Goals as goal

pub returns-in-Some : goal.returns-in-Some
returns-in-Some c =
    short_sign_front c.args.first c.args.rest.now c.in-Some.kind c.requires.begins c.requires.no_longer c.in-Some.ensures

pub returns-in-None : goal.returns-in-None
returns-in-None c = no_sign_front c.args.first c.args.rest.now c.requires.begins c.requires.no_longer c.in-None.ensures
