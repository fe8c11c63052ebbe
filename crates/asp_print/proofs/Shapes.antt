-- The tokens of a text are formed: names and variables have the bytes of names and variables, and numbers are in range.
use Rattle.std.proofs.Common.{ℕ, ◌≡◌, ◌⊎◌, refl, sym, ◌∙◌, ap, inl, inr, Bool, true, false, not, cond, ◌&&◌, List, [], ◌∷◌, ◌++◌, codes, ◌+◌, length}
use Rattle.std.specs.Prelude.{pos, neg_ℤ, ◌==◌, Option, None, Some, Result, Ok, Err, bytes_eq, if◌then◌else◌}
use Rattle.std.specs.List.{list_all, find}
use Rattle.std.specs.Str.Parse.{digits_value}
use Rattle.asp_defs.specs.declared.faults.TextFault.{TextFault}
use Rattle.asp_defs.specs.declared.faults.TextFault.TheVariants.{BadByte, BadNumber, OpenComment}
use Rattle.asp_defs.specs.Tokens.{is_blank, is_lower, is_name_byte}
use Rattle.asp_defs.specs.Lists.{is_empty}
use Rattle.asp_defs.specs.Tokens.{Token, NotToken, NameToken, VariableToken, NumberToken, DirectiveToken, Shape, BlankShape, CommentShape, OpenShape, TokenShape, is_upper, is_digit, signs, only_if, token_if, sign_shape, word_token, minus_shape, has_close, ends_at_close, block_shape, percent_shape, shape_of, Piece, pieces, Placed, is_bad_number, piece_tokens, after_piece, tokens_of_pieces, tokens_of, without_places}
use Rattle.asp_defs.proofs.Lists.{both, and_true, true_or_false, not_false}

-- whether bytes have the form of a name, and of a variable
abbrev pub is_name : List ℕ → Bool
is_name [] = false
is_name (b ∷ bs) = is_lower b && (list_all is_name_byte bs && not (bytes_eq (b ∷ bs) (codes "not")))

abbrev pub is_variable : List ℕ → Bool
is_variable [] = false
is_variable (b ∷ bs) = not (is_lower b) && (is_upper b && list_all is_name_byte bs)

-- whether the bytes that a token carries have their form
abbrev pub is_spelled : Token → Bool
is_spelled (NameToken s) = is_name s
is_spelled (VariableToken v) = is_variable v
is_spelled other = true

-- whether a token is one that a text can have
abbrev pub is_formed : Token → Bool
is_formed t = is_spelled t && not (is_bad_number t)

-- the branches of a shape, by the first byte
abbrev pub after_percent : ℕ → List ℕ → Option Shape
after_percent b bs = if b == 45 then minus_shape bs else sign_shape (b ∷ bs)

abbrev pub after_blank : ℕ → List ℕ → Option Shape
after_blank b bs = if b == 37 then percent_shape bs else after_percent b bs

abbrev pub after_digit : ℕ → List ℕ → Option Shape
after_digit b bs = if is_blank b then only_if (is_empty bs) BlankShape else after_blank b bs

abbrev pub after_upper : ℕ → List ℕ → Option Shape
after_upper b bs = if is_digit b then token_if (list_all is_digit bs) (NumberToken (pos (digits_value 10 (b ∷ bs)))) else after_digit b bs

abbrev pub after_lower : ℕ → List ℕ → Option Shape
after_lower b bs = if is_upper b then token_if (list_all is_name_byte bs) (VariableToken (b ∷ bs)) else after_upper b bs

-- what bytes are that begin with a small letter, with a capital one and with a digit
pub lower_shape : (b : ℕ) (bs : List ℕ) → is_lower b ≡ true → shape_of (b ∷ bs) ≡ token_if (list_all is_name_byte bs) (word_token (b ∷ bs))
lower_shape b bs e = ap (λ c. if c then token_if (list_all is_name_byte bs) (word_token (b ∷ bs)) else after_lower b bs) e

other_shape : (b : ℕ) (bs : List ℕ) → is_lower b ≡ false → shape_of (b ∷ bs) ≡ after_lower b bs
other_shape b bs e = ap (λ c. if c then token_if (list_all is_name_byte bs) (word_token (b ∷ bs)) else after_lower b bs) e

pub upper_shape : (b : ℕ) (bs : List ℕ) → is_lower b ≡ false → is_upper b ≡ true → shape_of (b ∷ bs) ≡ token_if (list_all is_name_byte bs) (VariableToken (b ∷ bs))
upper_shape b bs e f =
    other_shape b bs e ∙ ap (λ c. if c then token_if (list_all is_name_byte bs) (VariableToken (b ∷ bs)) else after_upper b bs) f

pub digit_shape : (b : ℕ) (bs : List ℕ) → is_lower b ≡ false → is_upper b ≡ false → is_digit b ≡ true → shape_of (b ∷ bs) ≡ token_if (list_all is_digit bs) (NumberToken (pos (digits_value 10 (b ∷ bs))))
digit_shape b bs e f g =
    other_shape b bs e
    ∙ ap (λ c. if c then token_if (list_all is_name_byte bs) (VariableToken (b ∷ bs)) else after_upper b bs) f
    ∙ ap (λ c. if c then token_if (list_all is_digit bs) (NumberToken (pos (digits_value 10 (b ∷ bs)))) else after_digit b bs) g

-- ---- shapes

abbrev gives_spelled : Option Shape → Bool
gives_spelled None = true
gives_spelled (Some BlankShape) = true
gives_spelled (Some CommentShape) = true
gives_spelled (Some OpenShape) = true
gives_spelled (Some (TokenShape t)) = is_spelled t

if_spelled : (c : Bool) (x y : Option Shape) → (c ≡ true → gives_spelled x ≡ true) → (c ≡ false → gives_spelled y ≡ true) → gives_spelled (if c then x else y) ≡ true
if_spelled true x y first second = first refl
if_spelled false x y first second = second refl

-- a shape that is given only where a test holds
only_spelled : (c : Bool) (s : Shape) → (c ≡ true → gives_spelled (Some s) ≡ true) → gives_spelled (only_if c s) ≡ true
only_spelled true s h = h refl
only_spelled false s h = refl

word_spelled : (b : ℕ) (bs : List ℕ) → is_lower b ≡ true → list_all is_name_byte bs ≡ true → is_spelled (word_token (b ∷ bs)) ≡ true
word_spelled b bs lower more =
    elim (true_or_false (bytes_eq (b ∷ bs) (codes "not"))) [
      | inl e ↦ ap (λ c. is_spelled (if c then NotToken else NameToken (b ∷ bs))) e
      | inr e ↦
          ap (λ c. is_spelled (if c then NotToken else NameToken (b ∷ bs))) e
          ∙ and_true (is_lower b) (list_all is_name_byte bs && not (bytes_eq (b ∷ bs) (codes "not"))) lower
          (and_true (list_all is_name_byte bs) (not (bytes_eq (b ∷ bs) (codes "not"))) more (not_false (bytes_eq (b ∷ bs) (codes "not")) e))
    ]

-- what a sign that was found gives
abbrev sign_found : Option (List ℕ × Token) → Option Shape
sign_found None = None
sign_found (Some sign) = Some (TokenShape sign.1)

found_spelled : (p : List ℕ × Token → Bool) (xs : List (List ℕ × Token)) → list_all (λ (sign : List ℕ × Token). is_spelled sign.1) xs ≡ true → gives_spelled (sign_found (find p xs)) ≡ true
found_spelled p [] h = refl
found_spelled p (x ∷ xs) h = go (true_or_false (p x)) (found_spelled p xs ((both (is_spelled x.1) (list_all (λ (sign : List ℕ × Token). is_spelled sign.1) xs) h).1))
  where
    go : (p x ≡ true) ⊎ (p x ≡ false) → gives_spelled (sign_found (find p xs)) ≡ true → gives_spelled (sign_found (find p (x ∷ xs))) ≡ true
    go (inl e) others =
        ap (λ c. gives_spelled (sign_found (cond c (Some x) (find p xs)))) e
        ∙ (both (is_spelled x.1) (list_all (λ (sign : List ℕ × Token). is_spelled sign.1) xs) h).0
    go (inr e) others = ap (λ c. gives_spelled (sign_found (cond c (Some x) (find p xs)))) e ∙ others

sign_spelled : (bytes : List ℕ) → gives_spelled (sign_shape bytes) ≡ true
sign_spelled bytes = found_spelled (λ (sign : List ℕ × Token). bytes_eq bytes sign.0) signs refl

minus_spelled : (bs : List ℕ) → gives_spelled (minus_shape bs) ≡ true
minus_spelled [] = refl
minus_spelled (b ∷ bs) = only_spelled (list_all is_digit (b ∷ bs)) (TokenShape (NumberToken (neg_ℤ (pos (digits_value 10 (b ∷ bs)))))) (λ e. refl)

block_spelled : (bs : List ℕ) → gives_spelled (block_shape bs) ≡ true
block_spelled bs =
    if_spelled (has_close bs) (only_if (ends_at_close bs) CommentShape) (Some OpenShape) (λ e. only_spelled (ends_at_close bs) CommentShape (λ f. refl)) (λ e. refl)

percent_spelled : (bs : List ℕ) → gives_spelled (percent_shape bs) ≡ true
percent_spelled [] = refl
percent_spelled (b ∷ bs) =
    if_spelled (b == 64) (token_if (list_all is_lower bs) (DirectiveToken bs)) (if b == 42 then block_shape bs else only_if (list_all (λ c. not (c == 10)) (b ∷ bs)) CommentShape)
    (λ e. only_spelled (list_all is_lower bs) (TokenShape (DirectiveToken bs)) (λ f. refl))
    (λ e. if_spelled (b == 42) (block_shape bs) (only_if (list_all (λ c. not (c == 10)) (b ∷ bs)) CommentShape) (λ f. block_spelled bs)
    (λ f. only_spelled (list_all (λ c. not (c == 10)) (b ∷ bs)) CommentShape (λ g. refl)))

shape_spelled : (bytes : List ℕ) → gives_spelled (shape_of bytes) ≡ true
shape_spelled [] = refl
shape_spelled (b ∷ bs) =
    if_spelled (is_lower b) (token_if (list_all is_name_byte bs) (word_token (b ∷ bs))) (after_lower b bs)
    (λ lower. only_spelled (list_all is_name_byte bs) (TokenShape (word_token (b ∷ bs))) (λ more. word_spelled b bs lower more))
    (λ other. if_spelled (is_upper b) (token_if (list_all is_name_byte bs) (VariableToken (b ∷ bs))) (after_upper b bs)
    (λ upper. only_spelled (list_all is_name_byte bs) (TokenShape (VariableToken (b ∷ bs)))
    (λ more. and_true (not (is_lower b)) (is_upper b && list_all is_name_byte bs) (not_false (is_lower b) other) (and_true (is_upper b) (list_all is_name_byte bs) upper more)))
    (λ e. if_spelled (is_digit b) (token_if (list_all is_digit bs) (NumberToken (pos (digits_value 10 (b ∷ bs))))) (after_digit b bs)
    (λ d. only_spelled (list_all is_digit bs) (TokenShape (NumberToken (pos (digits_value 10 (b ∷ bs))))) (λ f. refl))
    (λ f. if_spelled (is_blank b) (only_if (is_empty bs) BlankShape) (after_blank b bs)
    (λ g. only_spelled (is_empty bs) BlankShape (λ k. refl))
    (λ g. if_spelled (b == 37) (percent_shape bs) (after_percent b bs) (λ k. percent_spelled bs)
    (λ k. if_spelled (b == 45) (minus_shape bs) (sign_shape (b ∷ bs)) (λ l. minus_spelled bs) (λ l. sign_spelled (b ∷ bs)))))))

-- ---- pieces

-- what a piece gives, by its shape
abbrev pub from_shape : ℕ → List ℕ → Option Shape → Result (List Placed) TextFault
from_shape place bytes None = Err (BadByte place)
from_shape place bytes (Some BlankShape) = Ok []
from_shape place bytes (Some CommentShape) = Ok []
from_shape place bytes (Some OpenShape) = Err (OpenComment place)
from_shape place bytes (Some (TokenShape t)) =
    if is_bad_number t then Err (BadNumber place) else Ok (record { token = t; begins = place; ends = place + length bytes } ∷ [])

abbrev all_formed : Result (List Placed) TextFault → Bool
all_formed (Ok ts) = list_all is_formed (without_places ts)
all_formed (Err fault) = true

shape_formed : (place : ℕ) (bytes : List ℕ) (s : Option Shape) → gives_spelled s ≡ true → all_formed (from_shape place bytes s) ≡ true
shape_formed place bytes None h = refl
shape_formed place bytes (Some BlankShape) h = refl
shape_formed place bytes (Some CommentShape) h = refl
shape_formed place bytes (Some OpenShape) h = refl
shape_formed place bytes (Some (TokenShape t)) h = go (true_or_false (is_bad_number t))
  where
    go : (is_bad_number t ≡ true) ⊎ (is_bad_number t ≡ false) → all_formed (from_shape place bytes (Some (TokenShape t))) ≡ true
    go (inl e) = ap (λ c. all_formed (if c then Err (BadNumber place) else Ok (record { token = t; begins = place; ends = place + length bytes } ∷ []))) e
    go (inr e) =
        ap (λ c. all_formed (if c then Err (BadNumber place) else Ok (record { token = t; begins = place; ends = place + length bytes } ∷ []))) e
        ∙ and_true (is_formed t) true (and_true (is_spelled t) (not (is_bad_number t)) h (not_false (is_bad_number t) e)) refl

both_formed : (ts us : List Placed) → list_all is_formed (without_places ts) ≡ true → list_all is_formed (without_places us) ≡ true → list_all is_formed (without_places (ts ++ us)) ≡ true
both_formed [] us h k = k
both_formed (t ∷ ts) us h k =
    let parts = both (is_formed t.token) (list_all is_formed (without_places ts)) h in
    and_true (is_formed t.token) (list_all is_formed (without_places (ts ++ us))) parts.0 (both_formed ts us parts.1 k)

after_formed : (x y : Result (List Placed) TextFault) → all_formed x ≡ true → all_formed y ≡ true → all_formed (after_piece x y) ≡ true
after_formed (Err fault) y h k = refl
after_formed (Ok ts) (Err fault) h k = refl
after_formed (Ok ts) (Ok us) h k = both_formed ts us h k

pieces_formed : (ps : List Piece) → all_formed (tokens_of_pieces ps) ≡ true
pieces_formed [] = refl
pieces_formed (p ∷ ps) = after_formed (piece_tokens p) (tokens_of_pieces ps) (shape_formed p.place p.bytes (shape_of p.bytes) (shape_spelled p.bytes)) (pieces_formed ps)

pub tokens_formed : (bytes : List ℕ) (ts : List Placed) → tokens_of bytes ≡ Ok ts → list_all is_formed (without_places ts) ≡ true
tokens_formed bytes ts e = sym (ap all_formed e) ∙ pieces_formed (pieces bytes)
