-- The tokens of a text. A text is cut into pieces: at each place the longest front is taken that is a token, a comment or
-- a blank. Blanks and comments are then left out (of this project). All definitions are transparent, so that the tokens
-- of a given text compute.
use Rattle.std.specs.Prelude.{ℕ, zero, suc, pred, ◌+◌, ℤ, pos, negsuc, neg_ℤ, Bool, true, false, not, ◌&&◌, ◌||◌, ◌==◌, nat_le, int_le, if◌then◌else◌, List, [], ◌∷◌, ◌++◌, length, take, map, codes, Option, None, Some, is_some, Result, Ok, Err, bytes_eq}
use Rattle.std.specs.List.{list_all, find}
use Rattle.std.specs.Str.Parse.{digits_value}
use Rattle.asp_defs.specs.declared.faults.TextFault.{TextFault}
use Rattle.asp_defs.specs.declared.faults.TextFault.TheVariants.{BadByte, BadNumber, OpenComment}
use Rattle.asp_defs.specs.Lists.{is_empty}

-- a token: a directive with the letters behind its `%@`, a name and a variable with their bytes, a number with its value
pub data Token : Type 0 where
  DirectiveToken : List ℕ → Token
  NotToken : Token
  NameToken : List ℕ → Token
  VariableToken : List ℕ → Token
  AnonymousToken : Token
  NumberToken : ℤ → Token
  MinusToken : Token
  ArrowToken : Token
  ColonToken : Token
  DotToken : Token
  DotsToken : Token
  CommaToken : Token
  SemicolonToken : Token
  BarToken : Token
  LeftParenToken : Token
  RightParenToken : Token
  LeftBraceToken : Token
  RightBraceToken : Token
  EqToken : Token
  NeToken : Token
  NeAngleToken : Token
  LtToken : Token
  LeToken : Token
  GtToken : Token
  GeToken : Token

-- what a piece of a text is: a blank, a comment, a block comment without an end, or a token
pub data Shape : Type 0 where
  BlankShape : Shape
  CommentShape : Shape
  OpenShape : Shape
  TokenShape : Token → Shape

-- space, tab, line feed and carriage return
abbrev pub is_blank : ℕ → Bool
is_blank b = (b == 32) || ((b == 9) || ((b == 10) || (b == 13)))

abbrev pub is_lower : ℕ → Bool
is_lower b = nat_le 97 b && nat_le b 122

abbrev pub is_upper : ℕ → Bool
is_upper b = nat_le 65 b && nat_le b 90

abbrev pub is_digit : ℕ → Bool
is_digit b = nat_le 48 b && nat_le b 57

-- a letter of either case, a digit or an underscore
abbrev pub is_name_byte : ℕ → Bool
is_name_byte b = is_lower b || (is_upper b || (is_digit b || (b == 95)))

-- the tokens that have one spelling, but for the minus
abbrev pub signs : List (List ℕ × Token)
signs =
    (codes ":-", ArrowToken) ∷ (codes ":", ColonToken) ∷ (codes ".", DotToken) ∷ (codes "..", DotsToken)
    ∷ (codes ",", CommaToken) ∷ (codes ";", SemicolonToken) ∷ (codes "|", BarToken)
    ∷ (codes "(", LeftParenToken) ∷ (codes ")", RightParenToken)
    ∷ (codes "{", LeftBraceToken) ∷ (codes "}", RightBraceToken)
    ∷ (codes "=", EqToken) ∷ (codes "!=", NeToken) ∷ (codes "<>", NeAngleToken)
    ∷ (codes "<", LtToken) ∷ (codes "<=", LeToken) ∷ (codes ">", GtToken) ∷ (codes ">=", GeToken)
    ∷ (codes "_", AnonymousToken) ∷ []

-- a shape where a test holds
abbrev pub only_if : Bool → Shape → Option Shape
only_if holds s = if holds then Some s else None

abbrev pub token_if : Bool → Token → Option Shape
token_if holds t = only_if holds (TokenShape t)

-- the token of a sign's spelling
abbrev pub sign_shape : List ℕ → Option Shape
sign_shape bytes = elim (find (λ (sign : List ℕ × Token). bytes_eq bytes sign.0) signs) [
  | Some sign ↦ Some (TokenShape sign.1)
  | None ↦ None
]

-- a word that begins with a small letter: `not`, or else a name
abbrev pub word_token : List ℕ → Token
word_token bytes = if bytes_eq bytes (codes "not") then NotToken else NameToken bytes

-- a minus, or a negative number, by what follows the minus
abbrev pub minus_shape : List ℕ → Option Shape
minus_shape [] = Some (TokenShape MinusToken)
minus_shape (b ∷ bs) = token_if (list_all is_digit (b ∷ bs)) (NumberToken (neg_ℤ (pos (digits_value 10 (b ∷ bs)))))

-- whether `*%` stands in bytes, and whether it ends them and stands nowhere before
abbrev pub has_close : List ℕ → Bool
has_close [] = false
has_close (b ∷ []) = false
has_close (b ∷ c ∷ bs) = ((b == 42) && (c == 37)) || has_close (c ∷ bs)

abbrev pub ends_at_close : List ℕ → Bool
ends_at_close [] = false
ends_at_close (b ∷ []) = false
ends_at_close (b ∷ c ∷ bs) = if (b == 42) && (c == 37) then is_empty bs else ends_at_close (c ∷ bs)

-- a block comment, by what follows its `%*`: it ends at the first `*%`, and is open where there is none
abbrev pub block_shape : List ℕ → Option Shape
block_shape bytes = if has_close bytes then only_if (ends_at_close bytes) CommentShape else Some OpenShape

-- a directive, a block comment or a line comment, by what follows the `%`
abbrev pub percent_shape : List ℕ → Option Shape
percent_shape [] = Some CommentShape
percent_shape (b ∷ bs) =
    if b == 64 then token_if (list_all is_lower bs) (DirectiveToken bs)
    else if b == 42 then block_shape bs
    else only_if (list_all (λ c. not (c == 10)) (b ∷ bs)) CommentShape

-- what bytes are as a whole, if anything, by their first byte
abbrev pub shape_of : List ℕ → Option Shape
shape_of [] = None
shape_of (b ∷ bs) =
    if is_lower b then token_if (list_all is_name_byte bs) (word_token (b ∷ bs))
    else if is_upper b then token_if (list_all is_name_byte bs) (VariableToken (b ∷ bs))
    else if is_digit b then token_if (list_all is_digit bs) (NumberToken (pos (digits_value 10 (b ∷ bs))))
    else if is_blank b then only_if (is_empty bs) BlankShape
    else if b == 37 then percent_shape bs
    else if b == 45 then minus_shape bs
    else sign_shape (b ∷ bs)

-- the length of the longest front of at most so many bytes that is something, and 1 where none is
abbrev pub longest_front : ℕ → List ℕ → ℕ
longest_front zero bytes = 1
longest_front (suc most) bytes =
    elim (is_some (shape_of (take (suc most) bytes))) [ true ↦ suc most | false ↦ longest_front most bytes ]

-- a piece of a text: the place where it begins, and its bytes
pub record Piece : Type 0 where
  pub place : ℕ
  pub bytes : List ℕ

-- the pieces of bytes that begin at a place, where the first so many still belong to the piece before
abbrev pub pieces_from : ℕ → ℕ → List ℕ → List Piece
pieces_from taken place [] = []
pieces_from (suc taken) place (b ∷ bs) = pieces_from taken (suc place) bs
pieces_from zero place (b ∷ bs) =
    let len = longest_front (length (b ∷ bs)) (b ∷ bs)
    in record { place = place; bytes = take len (b ∷ bs) } ∷ pieces_from (pred len) (suc place) bs

-- the pieces of a text: they are the text when put together, and each is the longest at its place
abbrev pub pieces : List ℕ → List Piece
pieces bytes = pieces_from 0 0 bytes

-- a token in a text: the place where it begins, and the one behind its last byte
pub record Placed : Type 0 where
  pub token : Token
  pub begins : ℕ
  pub ends : ℕ

-- the least and the greatest number
abbrev pub is_in_range : ℤ → Bool
is_in_range x = int_le (negsuc 2147483647) x && int_le x (pos 2147483647)

abbrev pub is_bad_number : Token → Bool
is_bad_number (NumberToken x) = not (is_in_range x)
is_bad_number other = false

-- what a piece gives: nothing, a token, or the refusal of the text
abbrev pub piece_tokens : Piece → Result (List Placed) TextFault
piece_tokens p = elim (shape_of p.bytes) [
  | None ↦ Err (BadByte p.place)
  | Some BlankShape ↦ Ok []
  | Some CommentShape ↦ Ok []
  | Some OpenShape ↦ Err (OpenComment p.place)
  | Some (TokenShape t) ↦
      if is_bad_number t then Err (BadNumber p.place)
      else Ok (record { token = t; begins = p.place; ends = p.place + length p.bytes } ∷ [])
]

-- the tokens of pieces, or the first refusal
abbrev pub in_front : List Placed → Result (List Placed) TextFault → Result (List Placed) TextFault
in_front ts (Ok us) = Ok (ts ++ us)
in_front ts (Err fault) = Err fault

abbrev pub after_piece : Result (List Placed) TextFault → Result (List Placed) TextFault → Result (List Placed) TextFault
after_piece (Ok ts) rest = in_front ts rest
after_piece (Err fault) rest = Err fault

abbrev pub tokens_of_pieces : List Piece → Result (List Placed) TextFault
tokens_of_pieces [] = Ok []
tokens_of_pieces (p ∷ ps) = after_piece (piece_tokens p) (tokens_of_pieces ps)

-- the tokens of a text, or the refusal that stands first in it
abbrev pub tokens_of : List ℕ → Result (List Placed) TextFault
tokens_of bytes = tokens_of_pieces (pieces bytes)

-- tokens without their places
abbrev pub without_places : List Placed → List Token
without_places ts = map (λ (t : Placed). t.token) ts

-- the tokens of a text without their places, and none where it is refused
abbrev pub token_list : List ℕ → List Token
token_list bytes = elim (tokens_of bytes) [ Ok ts ↦ without_places ts | Err fault ↦ [] ]
