use Rattle.std.proofs.Common.{[], ◌∷◌, ◌+◌, take, ap, arith, pos, ◌≡◌, ◌∙◌, subst, sym, to_z, w64}
use Rattle.std.specs.Prelude.{Some}
use Rattle.std.specs.List.{prefix_len}
use Rattle.std.specs.Str.Parse.{digits_value}
use Rattle.std.proofs.lemmas.Int.{ints}
use Rattle.asp_defs.specs.Tokens.{NumberToken, TokenShape, is_digit}
use Rattle.asp_lex.proofs.Runs.{prefix_passes}
use Rattle.asp_lex.specs.Fronts.{number_shape}
use Rattle.asp_lex.proofs.Fronts.{Gives, run_from}
use Rattle.asp_lex.proofs.Classes.{digit_shape}
use Rattle.asp_lex.proofs.Numbers.{gives_natural}
use Rattle.asp_lex.proofs.pieces.number.Goals as goal

pub value_of-value-requires-clause-are_digits : goal.value_of-value-requires-clause-are_digits
value_of-value-requires-clause-are_digits c =
    rw c.digits_len-digits.ensures.value (prefix_passes is_digit c.args.rest.now)

pub returns : goal.returns
returns c =
    let b = c.args.first in
    let rest = c.args.rest.now in
    let bytes = b ∷ take (prefix_len is_digit rest) rest in
    let value = rw c.digits_len-digits.ensures.value at c.value_of-value.ensures in
    let same : to_z w64 c.value_of-value.result ≡ pos c.value_of-value.result = omega (arith, ints, value) in
    let shape = c.number_of.ensures ∙ ap number_shape same ∙ ap (λ n. number_shape (pos n)) value in
    run_from (b ∷ []) rest is_digit (λ ds. TokenShape (NumberToken (pos (digits_value 10 (b ∷ ds))))) _ _ (omega arith)
    (ap (λ n. 1 + n) c.digits_len-digits.ensures.value) (λ m. digit_shape b (take m rest) c.requires.begins)
    (subst (λ s. Gives (Some (TokenShape (NumberToken (pos (digits_value 10 bytes))))) s bytes) (sym shape) (gives_natural (digits_value 10 bytes) bytes))
