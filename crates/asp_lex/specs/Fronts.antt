-- The piece at the front of some bytes, as the lexer finds it. All definitions are transparent.
use Rattle.std.specs.Prelude.{ℕ, ◌+◌, ◌<◌, ◌≤◌, ◌≡◌, ℤ, Bool, true, false, not, ◌&&◌, ◌||◌, ◌==◌, if◌then◌else◌, List, [], ◌∷◌, length, take, Option, None, Some, Result, Ok, Err}
use Rattle.asp_defs.specs.declared.faults.TextFault.{TextFault}
use Rattle.asp_defs.specs.declared.faults.TextFault.TheVariants as faults
use Rattle.asp_defs.specs.Tokens.{is_blank, is_lower}
use Rattle.asp_defs.specs.Tokens as defs
use Rattle.asp_lex.specs.declared.tokens.Tok.{Tok}
use Rattle.asp_lex.specs.declared.tokens.Tok.TheVariants.{Number}
use Rattle.asp_lex.specs.declared.tokens.Token.{Token}
use Rattle.asp_lex.specs.declared.pieces.Piece.{Piece}
use Rattle.asp_lex.specs.declared.pieces.Shape.{Shape}
use Rattle.asp_lex.specs.declared.pieces.Shape.TheVariants as shapes
use Rattle.asp_lex.specs.Slices.{token_of}

-- what a piece gives: nothing, its token, or the refusal of the text
abbrev pub given : Shape → ℕ → List ℕ → Result (List defs.Placed) TextFault
given shapes.Gap place bytes = Ok []
given (shapes.Token kind) place bytes =
    Ok (record { token = token_of kind bytes; begins = place; ends = place + length bytes } ∷ [])
given shapes.BadByte place bytes = Err (faults.BadByte place)
given shapes.BadNumber place bytes = Err (faults.BadNumber place)
given shapes.OpenComment place bytes = Err (faults.OpenComment place)

-- the token that a piece is between two places, if it is one, or the refusal of the text
abbrev pub found_at : Shape → ℕ → ℕ → Result (Option Token) TextFault
found_at shapes.Gap from to = Ok None
found_at (shapes.Token kind) from to = Ok (Some (record { kind = kind; from = from; to = to }))
found_at shapes.BadByte from to = Err (faults.BadByte from)
found_at shapes.BadNumber from to = Err (faults.BadNumber from)
found_at shapes.OpenComment from to = Err (faults.OpenComment from)

-- a piece is the longest front of bytes that is something, or their first byte, and gives what that front gives
pub record IsFront (bytes : List ℕ) (piece : Piece) : Type 0 where
  pub some : 0 < piece.len
  pub within : piece.len ≤ length bytes
  pub longest : defs.longest_front (length bytes) bytes ≡ piece.len
  pub gives :
      (place : ℕ)
      → defs.piece_tokens (record { place = place; bytes = take piece.len bytes })
      ≡ given piece.shape place (take piece.len bytes)

-- a number's shape, by its value
abbrev pub number_shape : ℤ → Shape
number_shape x = if defs.is_in_range x then shapes.Token (Number x) else shapes.BadNumber

-- the shape of a sign with these bytes
abbrev pub sign_shape_of : List ℕ → Tok → defs.Shape
sign_shape_of bytes kind = defs.TokenShape (token_of kind bytes)

-- the shape of a byte and the one behind it as a sign
abbrev pub long_sign_shape : ℕ → List ℕ → Option defs.Shape
long_sign_shape b [] = None
long_sign_shape b (c ∷ bytes) = defs.sign_shape (b ∷ c ∷ [])

-- bytes that begin with it are a sign or nothing
abbrev pub may_begin_sign : ℕ → Bool
may_begin_sign b =
    not (is_lower b || (defs.is_upper b || (defs.is_digit b || (is_blank b || ((b == 37) || (b == 45))))))

-- where the first `*%` ends, if the bytes begin at a place and stand behind a star or behind none
abbrev pub close_of : Bool → ℕ → List ℕ → Option ℕ
close_of star place [] = None
close_of star place (b ∷ bytes) =
    if star && (b == 37) then Some (place + 1) else close_of (b == 42) (place + 1) bytes

abbrev pub is_not_line_feed : ℕ → Bool
is_not_line_feed b = not (b == 10)

-- a digit stands first
abbrev pub begins_digit : List ℕ → Bool
begins_digit [] = false
begins_digit (b ∷ bytes) = defs.is_digit b

-- what stands behind a `%` makes no directive and no block comment of it
abbrev pub begins_line_comment : List ℕ → Bool
begins_line_comment [] = true
begins_line_comment (b ∷ bytes) = not (b == 64) && not (b == 42)
