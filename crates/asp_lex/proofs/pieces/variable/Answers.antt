use Rattle.std.proofs.Common.{[], ◌∷◌, take, refl, ap, ◌+◌, arith}
use Rattle.std.specs.List.{prefix_len}
use Rattle.asp_defs.specs.Tokens.{is_name_byte, VariableToken, TokenShape}
use Rattle.asp_lex.specs.declared.tokens.Tok.TheVariants.{Variable}
use Rattle.asp_lex.proofs.Fronts.{run_from}
use Rattle.asp_lex.proofs.Classes.{upper_shape, gives_token}
use Rattle.asp_lex.proofs.pieces.variable.Goals as goal

pub returns : goal.returns
returns c =
    let b = c.args.first in
    let bytes = b ∷ take (prefix_len is_name_byte c.args.rest.now) c.args.rest.now in
    run_from (b ∷ []) c.args.rest.now is_name_byte (λ ds. TokenShape (VariableToken (b ∷ ds))) _ _ (omega arith)
    (ap (λ n. 1 + n) c.name_len.ensures.value) (λ m. upper_shape b (take m c.args.rest.now) c.requires.begins)
    (gives_token (VariableToken bytes) Variable bytes refl refl)
