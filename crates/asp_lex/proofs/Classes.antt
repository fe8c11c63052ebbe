-- What bytes are as a whole, by the class of their first byte, and what words and numbers give.
use Rattle.std.proofs.Common.{ℕ, zero, suc, ◌+◌, ◌≤◌, ◌<◌, ◌≡◌, refl, sym, ◌∙◌, ap, Bool, true, false, not, ◌&&◌, ◌||◌, ◌==◌, List, [], ◌∷◌, length, take, ℤ, pos, neg_ℤ, bytes_eq, codes, arith}
use Rattle.std.specs.Prelude.{Option, None, Some, Result, Ok, Err, if◌then◌else◌}
use Rattle.std.specs.List.{list_all}
use Rattle.std.specs.Str.Parse.{digits_value}
use Rattle.std.proofs.lemmas.Bool.Decides.{nat_tests}
use Rattle.asp_defs.specs.declared.faults.TextFault.{TextFault}
use Rattle.asp_defs.specs.declared.faults.TextFault.TheVariants as faults
use Rattle.asp_defs.specs.Tokens.{is_blank, is_lower, is_name_byte}
use Rattle.asp_defs.specs.Lists.{is_empty}
use Rattle.asp_defs.specs.Tokens as defs
use Rattle.asp_defs.proofs.TextRefutations.{clash}
use Rattle.asp_lex.specs.declared.tokens.Tok.{Tok}
use Rattle.asp_lex.specs.declared.tokens.Tok.TheVariants.{Number}
use Rattle.asp_lex.specs.declared.pieces.Shape.TheVariants as shapes
use Rattle.asp_lex.specs.Fronts.{given, IsFront, number_shape, is_not_line_feed, begins_line_comment, may_begin_sign}
use Rattle.asp_lex.specs.Slices.{token_of}
use Rattle.asp_lex.proofs.Fronts.{Gives, front_from}

-- the shape of bytes, by what their first byte is
abbrev shape_if : Bool → Bool → Bool → Bool → Bool → Bool → ℕ → List ℕ → Option defs.Shape
shape_if lower upper digit blank percent minus b bs =
    if lower then defs.token_if (list_all is_name_byte bs) (defs.word_token (b ∷ bs))
    else if upper then defs.token_if (list_all is_name_byte bs) (defs.VariableToken (b ∷ bs))
    else if digit then defs.token_if (list_all defs.is_digit bs) (defs.NumberToken (pos (digits_value 10 (b ∷ bs))))
    else if blank then defs.only_if (is_empty bs) defs.BlankShape
    else if percent then defs.percent_shape bs
    else if minus then defs.minus_shape bs
    else defs.sign_shape (b ∷ bs)

pub lower_shape : (b : ℕ) (bs : List ℕ) → is_lower b ≡ true → defs.shape_of (b ∷ bs) ≡ defs.token_if (list_all is_name_byte bs) (defs.word_token (b ∷ bs))
lower_shape b bs h =
    ap (λ x. shape_if x (defs.is_upper b) (defs.is_digit b) (is_blank b) (b == 37) (b == 45) b bs) h

upper_no_lower : (b : ℕ) → defs.is_upper b ≡ true → is_lower b ≡ false
upper_no_lower b h = grind (arith, nat_tests)

digit_no_lower : (b : ℕ) → defs.is_digit b ≡ true → is_lower b ≡ false
digit_no_lower b h = grind (arith, nat_tests)

digit_no_upper : (b : ℕ) → defs.is_digit b ≡ true → defs.is_upper b ≡ false
digit_no_upper b h = grind (arith, nat_tests)

pub upper_shape : (b : ℕ) (bs : List ℕ) → defs.is_upper b ≡ true → defs.shape_of (b ∷ bs) ≡ defs.token_if (list_all is_name_byte bs) (defs.VariableToken (b ∷ bs))
upper_shape b bs h =
    ap (λ x. shape_if x (defs.is_upper b) (defs.is_digit b) (is_blank b) (b == 37) (b == 45) b bs) (upper_no_lower b h)
    ∙ ap (λ x. shape_if false x (defs.is_digit b) (is_blank b) (b == 37) (b == 45) b bs) h

pub digit_shape : (b : ℕ) (bs : List ℕ) → defs.is_digit b ≡ true → defs.shape_of (b ∷ bs) ≡ defs.token_if (list_all defs.is_digit bs) (defs.NumberToken (pos (digits_value 10 (b ∷ bs))))
digit_shape b bs h =
    ap (λ x. shape_if x (defs.is_upper b) (defs.is_digit b) (is_blank b) (b == 37) (b == 45) b bs) (digit_no_lower b h)
    ∙ ap (λ x. shape_if false x (defs.is_digit b) (is_blank b) (b == 37) (b == 45) b bs) (digit_no_upper b h)
    ∙ ap (λ x. shape_if false false x (is_blank b) (b == 37) (b == 45) b bs) h

pub negative_shape : (b : ℕ) (bs : List ℕ) → defs.is_digit b ≡ true → defs.shape_of (45 ∷ b ∷ bs) ≡ defs.token_if (list_all defs.is_digit bs) (defs.NumberToken (neg_ℤ (pos (digits_value 10 (b ∷ bs)))))
negative_shape b bs h =
    ap (λ x. defs.token_if (x && list_all defs.is_digit bs) (defs.NumberToken (neg_ℤ (pos (digits_value 10 (b ∷ bs)))))) h

blank_shape : (b : ℕ) (bs : List ℕ) → is_lower b ≡ false → defs.is_upper b ≡ false → defs.is_digit b ≡ false → is_blank b ≡ true → defs.shape_of (b ∷ bs) ≡ defs.only_if (is_empty bs) defs.BlankShape
blank_shape b bs lower upper digit blank =
    ap (λ x. shape_if x (defs.is_upper b) (defs.is_digit b) (is_blank b) (b == 37) (b == 45) b bs) lower
    ∙ ap (λ x. shape_if false x (defs.is_digit b) (is_blank b) (b == 37) (b == 45) b bs) upper
    ∙ ap (λ x. shape_if false false x (is_blank b) (b == 37) (b == 45) b bs) digit
    ∙ ap (λ x. shape_if false false false x (b == 37) (b == 45) b bs) blank

-- a byte of no class but that of signs
pub sign_class : (b : ℕ) (bs : List ℕ) → may_begin_sign b ≡ true → defs.shape_of (b ∷ bs) ≡ defs.sign_shape (b ∷ bs)
sign_class b bs h = go (is_lower b) (defs.is_upper b) (defs.is_digit b) (is_blank b) (b == 37) (b == 45) h
  where
    go : (lower upper digit blank percent minus : Bool) → not (lower || (upper || (digit || (blank || (percent || minus))))) ≡ true → shape_if lower upper digit blank percent minus b bs ≡ defs.sign_shape (b ∷ bs)
    go false false false false false false e = refl
    go true upper digit blank percent minus e = clash e
    go false true digit blank percent minus e = clash e
    go false false true blank percent minus e = clash e
    go false false false true percent minus e = clash e
    go false false false false true minus e = clash e
    go false false false false false true e = clash e

-- ---- what pieces give

-- a token that is no number out of range
pub gives_token : (t : defs.Token) (kind : Tok) (bytes : List ℕ) → defs.is_bad_number t ≡ false → token_of kind bytes ≡ t → Gives (Some (defs.TokenShape t)) (shapes.Token kind) bytes
gives_token t kind bytes good is place =
    ap (λ b. let ok : Result (List defs.Placed) TextFault = Ok (record { token = t; begins = place; ends = place + length bytes } ∷ []) in if b then Err (faults.BadNumber place) else ok) good
    ∙ ap (λ u. let p : defs.Placed = record { token = u; begins = place; ends = place + length bytes } in Ok (p ∷ [])) (sym is)

-- a number, in range or not
pub gives_number : (x : ℤ) (bytes : List ℕ) → Gives (Some (defs.TokenShape (defs.NumberToken x))) (number_shape x) bytes
gives_number x bytes place = go (defs.is_in_range x)
  where
    answer : Result (List defs.Placed) TextFault
    answer = Ok (record { token = defs.NumberToken x; begins = place; ends = place + length bytes } ∷ [])

    go : (b : Bool) → (if not b then Err (faults.BadNumber place) else answer) ≡ given (if b then shapes.Token (Number x) else shapes.BadNumber) place bytes
    go true = refl
    go false = refl

pub word_is_good : (bytes : List ℕ) → defs.is_bad_number (defs.word_token bytes) ≡ false
word_is_good bytes = go (bytes_eq bytes (codes "not"))
  where
    go : (b : Bool) → defs.is_bad_number (if b then defs.NotToken else defs.NameToken bytes) ≡ false
    go true = refl
    go false = refl

-- ---- comments

pub comment_shape : (rest : List ℕ) → begins_line_comment rest ≡ true → (m : ℕ) → defs.shape_of (37 ∷ take m rest) ≡ defs.only_if (list_all is_not_line_feed (take m rest)) defs.CommentShape
comment_shape rest h zero = refl
comment_shape [] h (suc m) = refl
comment_shape (b ∷ bs) h (suc m) = go (b == 64) (b == 42) h
  where
    line : Option defs.Shape
    line = defs.only_if (list_all is_not_line_feed (b ∷ take m bs)) defs.CommentShape

    go : (at star : Bool) → not at && not star ≡ true → (if at then defs.token_if (list_all is_lower (take m bs)) (defs.DirectiveToken (take m bs)) else if star then defs.block_shape (take m bs) else line) ≡ line
    go false false e = refl
    go false true e = clash e
    go true star e = clash e

-- ---- blanks

pub blank_front : (b : ℕ) (rest : List ℕ) → is_lower b ≡ false → defs.is_upper b ≡ false → defs.is_digit b ≡ false → is_blank b ≡ true → IsFront (b ∷ rest) (record { shape = shapes.Gap; len = 1 })
blank_front b rest lower upper digit blank =
    front_from (b ∷ rest) shapes.Gap 1 defs.BlankShape (omega arith) (omega arith) (is [])
    (beyond rest) (λ place. refl)
  where
    is : (bs : List ℕ) → defs.shape_of (b ∷ bs) ≡ defs.only_if (is_empty bs) defs.BlankShape
    is bs = blank_shape b bs lower upper digit blank

    beyond : (rest : List ℕ) (more : ℕ) → 1 < more → more ≤ length (b ∷ rest) → defs.shape_of (take more (b ∷ rest)) ≡ None
    beyond rest zero long short = absurd (omega arith)
    beyond rest (suc zero) long short = absurd (omega arith)
    beyond [] (suc (suc k)) long short = absurd (omega arith)
    beyond (c ∷ cs) (suc (suc k)) long short = is (c ∷ take k cs)
