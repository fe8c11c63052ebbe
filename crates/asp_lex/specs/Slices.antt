-- The tokens that the lexer answers, as the tokens of the text: each is a slice of the text's bytes. All definitions are
-- transparent.
use Rattle.std.specs.Prelude.{ℕ, ◌<◌, ◌≤◌, List, [], ◌∷◌, drop, slice_range}
use Rattle.asp_defs.specs.Tokens as defs
use Rattle.asp_lex.specs.declared.tokens.Tok.{Tok}
use Rattle.asp_lex.specs.declared.tokens.Tok.TheVariants as variants
use Rattle.asp_lex.specs.declared.tokens.Token.{Token}

-- the token of a kind that has these bytes; a directive's word stands behind its `%@`
abbrev pub token_of : Tok → List ℕ → defs.Token
token_of variants.Directive bytes = defs.DirectiveToken (drop 2 bytes)
token_of variants.Not bytes = defs.NotToken
token_of variants.Name bytes = defs.NameToken bytes
token_of variants.Variable bytes = defs.VariableToken bytes
token_of variants.Anonymous bytes = defs.AnonymousToken
token_of (variants.Number x) bytes = defs.NumberToken x
token_of variants.Minus bytes = defs.MinusToken
token_of variants.Arrow bytes = defs.ArrowToken
token_of variants.Colon bytes = defs.ColonToken
token_of variants.Dot bytes = defs.DotToken
token_of variants.Dots bytes = defs.DotsToken
token_of variants.Comma bytes = defs.CommaToken
token_of variants.Semicolon bytes = defs.SemicolonToken
token_of variants.Bar bytes = defs.BarToken
token_of variants.LeftParen bytes = defs.LeftParenToken
token_of variants.RightParen bytes = defs.RightParenToken
token_of variants.LeftBrace bytes = defs.LeftBraceToken
token_of variants.RightBrace bytes = defs.RightBraceToken
token_of variants.Eq bytes = defs.EqToken
token_of variants.Ne bytes = defs.NeToken
token_of variants.NeAngle bytes = defs.NeAngleToken
token_of variants.Lt bytes = defs.LtToken
token_of variants.Le bytes = defs.LeToken
token_of variants.Gt bytes = defs.GtToken
token_of variants.Ge bytes = defs.GeToken

-- a token with its bytes, which are those from its first place to the one behind its last
abbrev pub placed : List ℕ → Token → defs.Placed
placed bytes t = record { token = token_of t.kind (slice_range bytes t.from t.to); begins = t.from; ends = t.to }

-- tokens stand one behind the other between two places, and each has a byte
abbrev pub StandBetween : ℕ → ℕ → List Token → Type 0
StandBetween low high [] = low ≤ high
StandBetween low high (t ∷ ts) = (low ≤ t.from) × (t.from < t.to) × StandBetween t.to high ts
