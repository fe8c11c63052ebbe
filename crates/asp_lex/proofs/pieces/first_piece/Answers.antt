use Rattle.std.proofs.Common.{sym, ◌∙◌}
use Rattle.asp_lex.proofs.Classes.{blank_front}
use Rattle.asp_lex.proofs.pieces.first_piece.Goals as goal

pub returns-then-is_blank : goal.returns-then-is_blank
returns-then-is_blank c =
    blank_front c.args.first c.args.rest.now (sym c.is_lower.ensures ∙ c.if-is_lower.false)
    (sym c.is_upper.ensures ∙ c.if-is_upper.false) (sym c.is_digit.ensures ∙ c.if-is_digit.false)
    (sym c.is_blank.ensures ∙ c.if-is_blank.true)
