use Rattle.std.proofs.Common.{sym}
use Rattle.asp_lex.proofs.Comments.{block_front, open_front}
use Rattle.asp_lex.proofs.pieces.block_comment.Goals as goal

pub returns-in-Some : goal.returns-in-Some
returns-in-Some c = block_front c.args.rest.now c.in-Some.len (sym c.in-Some.ensures.value)

pub returns-in-None : goal.returns-in-None
returns-in-None c = open_front c.args.rest.now (sym c.in-None.ensures.value)
