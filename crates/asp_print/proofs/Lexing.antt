-- Bytes that are cut into given tokens, built up from the end: a lexeme in front of bytes that it ends before.
use Rattle.std.proofs.Common.{ℕ, zero, suc, ◌+◌, ◌<◌, ◌≤◌, ◌≡◌, refl, sym, ◌∙◌, ap, subst, Bool, true, false, not, ◌&&◌, List, [], ◌∷◌, ◌++◌, length, take, codes, arith, length-append}
use Rattle.std.specs.Prelude.{None, Some, is_some, pred, Ok, Err, bytes_eq, if◌then◌else◌}
use Rattle.std.specs.List.{list_all}
use Rattle.std.proofs.Math.Seq.{take-append_seam}
use Rattle.asp_defs.specs.declared.syntax.Op.{Op}
use Rattle.asp_defs.specs.declared.syntax.Op.TheVariants.{Eq, Ne, Lt, Le, Gt, Ge}
use Rattle.asp_defs.specs.declared.syntax.Quant.{Quant}
use Rattle.asp_defs.specs.declared.syntax.Quant.TheVariants.{Exists, Forall}
use Rattle.asp_defs.specs.declared.faults.TextFault.TheVariants.{BadNumber}
use Rattle.asp_defs.specs.Tokens.{is_lower, is_name_byte}
use Rattle.asp_defs.specs.Tokens.{Token, DirectiveToken, NotToken, NameToken, VariableToken, AnonymousToken, MinusToken, ArrowToken, ColonToken, DotToken, DotsToken, CommaToken, SemicolonToken, BarToken, LeftParenToken, RightParenToken, LeftBraceToken, RightBraceToken, EqToken, NeToken, LtToken, LeToken, GtToken, GeToken, BlankShape, TokenShape, is_upper, token_if, word_token, shape_of, longest_front, pieces_from, Placed, is_bad_number, after_piece, tokens_of_pieces, without_places}
use Rattle.asp_defs.specs.Grammar.{quant_word}
use Rattle.asp_defs.specs.Canonical.{op_text}
use Rattle.asp_defs.specs.Lines.{line}
use Rattle.asp_defs.proofs.Lists.{both, not_true}
use Rattle.asp_defs.proofs.Pieces.{longest_front_is}
use Rattle.asp_defs.proofs.TextRefutations.{clash}
use Rattle.asp_print.proofs.Shapes.{is_name, is_variable, from_shape, lower_shape, upper_shape}

-- bytes, cut from their first one on, give tokens
pub record Lexes (bytes : List ℕ) (ts : List Token) : Type 0 where
  pub cut : (place : ℕ) → (us : List Placed) × (tokens_of_pieces (pieces_from 0 place bytes) ≡ Ok us) × (without_places us ≡ ts)

pub nothing_lexes : Lexes [] []
nothing_lexes = record { cut = λ place. ([], refl, refl) }

-- no more of the bytes behind a piece can belong to it
abbrev pub Ends : List ℕ → List ℕ → Type 0
Ends piece [] = Unit {0}
Ends piece (c ∷ bytes) = (more : List ℕ) → shape_of (piece ++ c ∷ more) ≡ None

-- a longer front is the piece and some of the bytes behind it
longer_front : (piece bytes : List ℕ) (size : ℕ) → length piece < size → size ≤ length (piece ++ bytes)
    → (c : ℕ) × (behind : List ℕ) × (more : List ℕ) × (bytes ≡ c ∷ behind) × (take size (piece ++ bytes) ≡ piece ++ c ∷ more)
longer_front [] [] size long short = absurd (omega arith)
longer_front [] (c ∷ bytes) zero long short = absurd (omega arith)
longer_front [] (c ∷ bytes) (suc size) long short = (c, bytes, take size bytes, refl, refl)
longer_front (b ∷ piece) bytes zero long short = absurd (omega arith)
longer_front (b ∷ piece) bytes (suc size) long short =
    let (c, behind, more, e, f) = longer_front piece bytes size (omega arith) (omega arith) in
    (c, behind, more, e, ap (λ bs. b ∷ bs) f)

none_longer : (piece bytes : List ℕ) → Ends piece bytes → (size : ℕ) → length piece < size → size ≤ length (piece ++ bytes) → shape_of (take size (piece ++ bytes)) ≡ None
none_longer piece bytes ends size long short =
    let (c, behind, more, e, f) = longer_front piece bytes size long short in
    let here : Ends piece (c ∷ behind) = subst (Ends piece) e ends in
    ap shape_of f ∙ here more

longest : (piece bytes : List ℕ) → 0 < length piece → is_some (shape_of piece) ≡ true → Ends piece bytes → longest_front (length (piece ++ bytes)) (piece ++ bytes) ≡ length piece
longest piece bytes some shape ends =
    longest_front_is (piece ++ bytes) (length piece) some (omega (arith, length-append piece bytes))
    (subst (λ bs. is_some (shape_of bs) ≡ true) (sym (take-append_seam piece bytes)) shape) (none_longer piece bytes ends)

skipped : (piece bytes : List ℕ) (place : ℕ) → (next : ℕ) × (pieces_from (length piece) place (piece ++ bytes) ≡ pieces_from 0 next bytes)
skipped [] bytes place = (place, refl)
skipped (b ∷ piece) bytes place = skipped piece bytes (suc place)

-- the first piece of bytes
first_piece : (b : ℕ) (bs bytes : List ℕ) (place : ℕ) → is_some (shape_of (b ∷ bs)) ≡ true → Ends (b ∷ bs) bytes
    → (next : ℕ) × (pieces_from 0 place (b ∷ (bs ++ bytes)) ≡ record { place = place; bytes = b ∷ bs } ∷ pieces_from 0 next bytes)
first_piece b bs bytes place shape ends =
    let others = skipped bs bytes (suc place) in (
      others.0,
      ap (λ len. record { place = place; bytes = take len (b ∷ (bs ++ bytes)) } ∷ pieces_from (pred len) (suc place) (bs ++ bytes)) (longest (b ∷ bs) bytes (omega arith) shape ends)
          ∙ ap (λ cs. record { place = place; bytes = b ∷ cs } ∷ pieces_from (length bs) (suc place) (bs ++ bytes)) (take-append_seam bs bytes)
          ∙ ap (λ ps. record { place = place; bytes = b ∷ bs } ∷ ps) others.1,
    )

-- a token in front
pub lexes_token : (b : ℕ) (bs bytes : List ℕ) (t : Token) (ts : List Token) → shape_of (b ∷ bs) ≡ Some (TokenShape t) → is_bad_number t ≡ false → Ends (b ∷ bs) bytes → Lexes bytes ts
    → Lexes (b ∷ (bs ++ bytes)) (t ∷ ts)
lexes_token b bs bytes t ts shape good ends others = record {
  cut = λ place.
      let first = first_piece b bs bytes place (ap is_some shape) ends in
      let (us, e, f) = others.cut first.0 in
      let placed : Placed = record { token = t; begins = place; ends = place + length (b ∷ bs) } in (
        placed ∷ us,
        ap tokens_of_pieces first.1
            ∙ ap (λ s. after_piece (from_shape place (b ∷ bs) s) (tokens_of_pieces (pieces_from 0 first.0 bytes))) shape
            ∙ ap (λ bad. after_piece (if bad then Err (BadNumber place) else Ok (placed ∷ [])) (tokens_of_pieces (pieces_from 0 first.0 bytes))) good
            ∙ ap (after_piece (Ok (placed ∷ []))) e,
        ap (λ vs. t ∷ vs) f,
      );
}

-- a blank in front
lexes_blank : (b : ℕ) (bytes : List ℕ) (ts : List Token) → shape_of (b ∷ []) ≡ Some BlankShape → Ends (b ∷ []) bytes → Lexes bytes ts → Lexes (b ∷ bytes) ts
lexes_blank b bytes ts shape ends others = record {
  cut = λ place.
      let first = first_piece b [] bytes place (ap is_some shape) ends in
      let (us, e, f) = others.cut first.0 in (
        us,
        ap tokens_of_pieces first.1
            ∙ ap (λ s. after_piece (from_shape place (b ∷ []) s) (tokens_of_pieces (pieces_from 0 first.0 bytes))) shape
            ∙ ap (after_piece (Ok [])) e,
        f,
      );
}

-- ---- blanks and signs

-- a piece that nothing makes longer
always : (piece : List ℕ) → ((c : ℕ) (more : List ℕ) → shape_of (piece ++ c ∷ more) ≡ None) → (bytes : List ℕ) → Ends piece bytes
always piece h [] = tt
always piece h (c ∷ bytes) = h c

module _ {bytes : List ℕ} {ts : List Token} (others : Lexes bytes ts) where
  pub blank : Lexes (32 ∷ bytes) ts
  blank = lexes_blank 32 bytes ts refl (always (32 ∷ []) (λ c more. refl) bytes) others

  pub feed : Lexes (10 ∷ bytes) ts
  feed = lexes_blank 10 bytes ts refl (always (10 ∷ []) (λ c more. refl) bytes) others

  pub comma : Lexes (44 ∷ bytes) (CommaToken ∷ ts)
  comma = lexes_token 44 [] bytes CommaToken ts refl refl (always (44 ∷ []) (λ c more. refl) bytes) others

  pub semicolon : Lexes (59 ∷ bytes) (SemicolonToken ∷ ts)
  semicolon = lexes_token 59 [] bytes SemicolonToken ts refl refl (always (59 ∷ []) (λ c more. refl) bytes) others

  pub bar : Lexes (124 ∷ bytes) (BarToken ∷ ts)
  bar = lexes_token 124 [] bytes BarToken ts refl refl (always (124 ∷ []) (λ c more. refl) bytes) others

  pub left_paren : Lexes (40 ∷ bytes) (LeftParenToken ∷ ts)
  left_paren = lexes_token 40 [] bytes LeftParenToken ts refl refl (always (40 ∷ []) (λ c more. refl) bytes) others

  pub right_paren : Lexes (41 ∷ bytes) (RightParenToken ∷ ts)
  right_paren = lexes_token 41 [] bytes RightParenToken ts refl refl (always (41 ∷ []) (λ c more. refl) bytes) others

  pub left_brace : Lexes (123 ∷ bytes) (LeftBraceToken ∷ ts)
  left_brace = lexes_token 123 [] bytes LeftBraceToken ts refl refl (always (123 ∷ []) (λ c more. refl) bytes) others

  pub right_brace : Lexes (125 ∷ bytes) (RightBraceToken ∷ ts)
  right_brace = lexes_token 125 [] bytes RightBraceToken ts refl refl (always (125 ∷ []) (λ c more. refl) bytes) others

  pub anonymous : Lexes (95 ∷ bytes) (AnonymousToken ∷ ts)
  anonymous = lexes_token 95 [] bytes AnonymousToken ts refl refl (always (95 ∷ []) (λ c more. refl) bytes) others

  pub dots : Lexes (46 ∷ 46 ∷ bytes) (DotsToken ∷ ts)
  dots = lexes_token 46 (46 ∷ []) bytes DotsToken ts refl refl (always (46 ∷ 46 ∷ []) (λ c more. refl) bytes) others

  -- a minus before a byte that is no digit
  pub minus : Ends (45 ∷ []) bytes → Lexes (45 ∷ bytes) (MinusToken ∷ ts)
  minus ends = lexes_token 45 [] bytes MinusToken ts refl refl ends others

  -- a full stop and its line feed
  pub dot : Lexes (46 ∷ 10 ∷ bytes) (DotToken ∷ ts)
  dot = lexes_token 46 [] (10 ∷ bytes) DotToken ts refl refl (λ more. refl) feed

  -- signs and words with the blank behind them
  pub arrow : Lexes (58 ∷ 45 ∷ 32 ∷ bytes) (ArrowToken ∷ ts)
  arrow = lexes_token 58 (45 ∷ []) (32 ∷ bytes) ArrowToken ts refl refl (λ more. refl) blank

  pub colon : Lexes (58 ∷ 32 ∷ bytes) (ColonToken ∷ ts)
  colon = lexes_token 58 [] (32 ∷ bytes) ColonToken ts refl refl (λ more. refl) blank

  pub negation : Lexes (codes "not " ++ bytes) (NotToken ∷ ts)
  negation = lexes_token 110 (111 ∷ 116 ∷ []) (32 ∷ bytes) NotToken ts refl refl (λ more. refl) blank

  pub constraint_directive : Lexes (line (codes "%@constraint") ++ bytes) (DirectiveToken (codes "constraint") ∷ ts)
  constraint_directive = lexes_token 37 (codes "@constraint") (10 ∷ bytes) (DirectiveToken (codes "constraint")) ts refl refl (λ more. refl) feed

  pub level_directive : (q : Quant) → Lexes (line (codes "%@" ++ quant_word q) ++ bytes) (DirectiveToken (quant_word q) ∷ ts)
  level_directive Exists = lexes_token 37 (codes "@exists") (10 ∷ bytes) (DirectiveToken (codes "exists")) ts refl refl (λ more. refl) feed
  level_directive Forall = lexes_token 37 (codes "@forall") (10 ∷ bytes) (DirectiveToken (codes "forall")) ts refl refl (λ more. refl) feed

-- the token of an operator as it is printed
abbrev pub op_token : Op → Token
op_token Eq = EqToken
op_token Ne = NeToken
op_token Lt = LtToken
op_token Le = LeToken
op_token Gt = GtToken
op_token Ge = GeToken

-- an operator with the blank behind it
pub operator : {bytes : List ℕ} {ts : List Token} → Lexes bytes ts → (op : Op) → Lexes (op_text op ++ 32 ∷ bytes) (op_token op ∷ ts)
operator {bytes} {ts} others Eq = lexes_token 61 [] (32 ∷ bytes) EqToken ts refl refl (λ more. refl) (blank others)
operator {bytes} {ts} others Ne = lexes_token 33 (61 ∷ []) (32 ∷ bytes) NeToken ts refl refl (λ more. refl) (blank others)
operator {bytes} {ts} others Lt = lexes_token 60 [] (32 ∷ bytes) LtToken ts refl refl (λ more. refl) (blank others)
operator {bytes} {ts} others Le = lexes_token 60 (61 ∷ []) (32 ∷ bytes) LeToken ts refl refl (λ more. refl) (blank others)
operator {bytes} {ts} others Gt = lexes_token 62 [] (32 ∷ bytes) GtToken ts refl refl (λ more. refl) (blank others)
operator {bytes} {ts} others Ge = lexes_token 62 (61 ∷ []) (32 ∷ bytes) GeToken ts refl refl (λ more. refl) (blank others)

-- ---- names and variables

-- whether the first of some bytes isn't one of a name, or there is none
abbrev pub stops : List ℕ → Bool
stops [] = true
stops (c ∷ bytes) = not (is_name_byte c)

-- a byte that fails a test lets a list fail it
pub not_all : (p : ℕ → Bool) (bs : List ℕ) (c : ℕ) (more : List ℕ) → p c ≡ false → list_all p (bs ++ c ∷ more) ≡ false
not_all p [] c more e = ap (λ first. first && list_all p more) e
not_all p (b ∷ bs) c more e = ap (λ others. p b && others) (not_all p bs c more e) ∙ and_false (p b)
  where
    and_false : (a : Bool) → a && false ≡ false
    and_false true = refl
    and_false false = refl

lower_ends : (b : ℕ) (bs bytes : List ℕ) → is_lower b ≡ true → stops bytes ≡ true → Ends (b ∷ bs) bytes
lower_ends b bs [] lower end = tt
lower_ends b bs (c ∷ bytes) lower end = λ more.
    lower_shape b (bs ++ c ∷ more) lower
    ∙ ap (λ passes. token_if passes (word_token (b ∷ (bs ++ c ∷ more)))) (not_all is_name_byte bs c more (not_true (is_name_byte c) end))

upper_ends : (b : ℕ) (bs bytes : List ℕ) → is_lower b ≡ false → is_upper b ≡ true → stops bytes ≡ true → Ends (b ∷ bs) bytes
upper_ends b bs [] other upper end = tt
upper_ends b bs (c ∷ bytes) other upper end = λ more.
    upper_shape b (bs ++ c ∷ more) other upper
    ∙ ap (λ passes. token_if passes (VariableToken (b ∷ (bs ++ c ∷ more)))) (not_all is_name_byte bs c more (not_true (is_name_byte c) end))

pub lexes_name : (name : List ℕ) → is_name name ≡ true → (bytes : List ℕ) (ts : List Token) → stops bytes ≡ true → Lexes bytes ts → Lexes (name ++ bytes) (NameToken name ∷ ts)
lexes_name [] h bytes ts end others = clash h
lexes_name (b ∷ bs) h bytes ts end others =
    let first = both (is_lower b) (list_all is_name_byte bs && not (bytes_eq (b ∷ bs) (codes "not"))) h in
    let rest = both (list_all is_name_byte bs) (not (bytes_eq (b ∷ bs) (codes "not"))) first.1 in
    lexes_token b bs bytes (NameToken (b ∷ bs)) ts
    (lower_shape b bs first.0
    ∙ ap (λ passes. token_if passes (word_token (b ∷ bs))) rest.0
    ∙ ap (λ word. Some (TokenShape (if word then NotToken else NameToken (b ∷ bs)))) (not_true (bytes_eq (b ∷ bs) (codes "not")) rest.1))
    refl (lower_ends b bs bytes first.0 end) others

pub lexes_variable : (name : List ℕ) → is_variable name ≡ true → (bytes : List ℕ) (ts : List Token) → stops bytes ≡ true → Lexes bytes ts → Lexes (name ++ bytes) (VariableToken name ∷ ts)
lexes_variable [] h bytes ts end others = clash h
lexes_variable (b ∷ bs) h bytes ts end others =
    let first = both (not (is_lower b)) (is_upper b && list_all is_name_byte bs) h in
    let rest = both (is_upper b) (list_all is_name_byte bs) first.1 in
    let other = not_true (is_lower b) first.0 in
    lexes_token b bs bytes (VariableToken (b ∷ bs)) ts
    (upper_shape b bs other rest.0 ∙ ap (λ passes. token_if passes (VariableToken (b ∷ bs))) rest.1)
    refl (upper_ends b bs bytes other rest.0 end) others
