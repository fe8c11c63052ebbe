use Rattle.std.proofs.Common.{[], ◌∷◌, ◌+◌, take, refl, ap, arith}
use Rattle.std.specs.List.{prefix_len}
use Rattle.asp_defs.specs.Tokens.{is_lower, DirectiveToken, TokenShape}
use Rattle.asp_lex.specs.declared.tokens.Tok.TheVariants.{Directive}
use Rattle.asp_lex.proofs.Fronts.{run_from}
use Rattle.asp_lex.proofs.Classes.{gives_token}
use Rattle.asp_lex.proofs.pieces.directive.Goals as goal

pub returns : goal.returns
returns c =
    let word = take (prefix_len is_lower c.args.rest.now) c.args.rest.now in
    run_from (37 ∷ 64 ∷ []) c.args.rest.now is_lower (λ ds. TokenShape (DirectiveToken ds)) _ _ (omega arith)
    (ap (λ n. 2 + n) c.letters_len.ensures.value) (λ m. refl)
    (gives_token (DirectiveToken word) Directive (37 ∷ 64 ∷ word) refl refl)
