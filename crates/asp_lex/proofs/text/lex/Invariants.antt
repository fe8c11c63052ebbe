use Rattle.std.proofs.Common.{length}
use Rattle.asp_lex.proofs.Texts.{Lexed}
use Rattle.asp_lex.proofs.text.lex.Given as goal

abbrev pub invariant-loop-first : goal.invariant-loop-first
invariant-loop-first l = Lexed l.bytes l.at l.rest l.tokens.items

abbrev pub decreases-loop-first : goal.decreases-loop-first
decreases-loop-first l = length l.rest
