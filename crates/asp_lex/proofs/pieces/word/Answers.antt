use Rattle.std.proofs.Common.{[], ◌∷◌, ◌+◌, take, ap, arith}
use Rattle.std.specs.List.{prefix_len}
use Rattle.asp_defs.specs.Tokens.{is_name_byte, word_token, TokenShape}
use Rattle.asp_lex.proofs.Fronts.{run_from}
use Rattle.asp_lex.proofs.Classes.{lower_shape, gives_token, word_is_good}
use Rattle.asp_lex.proofs.pieces.word.Goals as goal

pub returns : goal.returns
returns c =
    let b = c.args.first in
    let bytes = b ∷ take (prefix_len is_name_byte c.args.rest.now) c.args.rest.now in
    let is = rw c.name_len-len.ensures.value at c.word_kind.ensures in
    run_from (b ∷ []) c.args.rest.now is_name_byte (λ ds. TokenShape (word_token (b ∷ ds))) _ _ (omega arith)
    (ap (λ n. 1 + n) c.name_len-len.ensures.value) (λ m. lower_shape b (take m c.args.rest.now) c.requires.begins)
    (gives_token (word_token bytes) _ bytes (word_is_good bytes) is)
