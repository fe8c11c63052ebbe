use Rattle.std.proofs.Common.{[], ◌∷◌, ◌+◌, refl, ap, arith}
use Rattle.asp_defs.specs.Tokens.{CommentShape}
use Rattle.asp_lex.specs.Fronts.{is_not_line_feed}
use Rattle.asp_lex.proofs.Fronts.{run_from}
use Rattle.asp_lex.proofs.Classes.{comment_shape}
use Rattle.asp_lex.proofs.pieces.line_comment.Goals as goal

pub returns : goal.returns
returns c =
    run_from (37 ∷ []) c.args.rest.now is_not_line_feed (λ ds. CommentShape) _ _ (omega arith)
    (ap (λ n. 1 + n) c.line_len.ensures.value) (comment_shape c.args.rest.now c.requires.begins) (λ place. refl)
