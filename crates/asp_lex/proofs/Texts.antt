-- The lexer's way through a text.
use Rattle.std.proofs.Common.{ℕ, zero, suc, ◌+◌, ◌-◌, ◌≤◌, ◌<◌, ◌≡◌, refl, sym, ◌∙◌, ap, ap₂, subst, List, [], ◌∷◌, ◌++◌, length, take, drop, map, slice_range, option_to_list, append_assoc, append-nil, drop-drop, length-drop, length-take, arith}
use Rattle.std.specs.Prelude.{Option, None, Some, Result, Ok, Err, pred}
use Rattle.asp_defs.specs.declared.faults.TextFault.{TextFault}
use Rattle.asp_defs.specs.Tokens as defs
use Rattle.asp_lex.specs.declared.tokens.Token.{Token}
use Rattle.asp_lex.specs.declared.pieces.Piece.{Piece}
use Rattle.asp_lex.specs.declared.pieces.Shape.{Shape}
use Rattle.asp_lex.specs.declared.pieces.Shape.TheVariants as shapes
use Rattle.asp_lex.specs.Slices.{placed, StandBetween, token_of}
use Rattle.asp_lex.specs.Fronts.{given, found_at, IsFront}
use Rattle.asp_lex.proofs.Slices.{stands_before, stands_more}

-- ---- pieces

skipped : (taken place : ℕ) (bs : List ℕ) → taken ≤ length bs → defs.pieces_from taken place bs ≡ defs.pieces_from 0 (place + taken) (drop taken bs)
skipped zero place bs h = let e : place ≡ place + 0 = omega arith in ap (λ p. defs.pieces_from 0 p bs) e
skipped (suc taken) place [] h = absurd (omega arith)
skipped (suc taken) place (b ∷ bs) h =
    let e : suc place + taken ≡ place + suc taken = omega arith in
    skipped taken (suc place) bs (omega arith) ∙ ap (λ p. defs.pieces_from 0 p (drop taken bs)) e

-- the first piece and those behind it
first_cut : (b : ℕ) (bs : List ℕ) (len place : ℕ) → defs.longest_front (length (b ∷ bs)) (b ∷ bs) ≡ len → 0 < len → len ≤ length (b ∷ bs) → defs.pieces_from 0 place (b ∷ bs) ≡ record { place = place; bytes = take len (b ∷ bs) } ∷ defs.pieces_from 0 (place + len) (drop len (b ∷ bs))
first_cut b bs zero place longest some within = absurd (omega arith)
first_cut b bs (suc m) place longest some within =
    let e : suc place + m ≡ place + suc m = omega arith in
    let cut : ℕ → List defs.Piece → List defs.Piece = λ n ps. record { place = place; bytes = take n (b ∷ bs) } ∷ ps in
    ap (λ n. cut n (defs.pieces_from (pred n) (suc place) bs)) longest
    ∙ ap (cut (suc m)) (skipped m (suc place) bs (omega arith) ∙ ap (λ p. defs.pieces_from 0 p (drop m bs)) e)

abbrev tokens_from : ℕ → List ℕ → Result (List defs.Placed) TextFault
tokens_from place bs = defs.tokens_of_pieces (defs.pieces_from 0 place bs)

first_gives : (b : ℕ) (bs : List ℕ) (piece : Piece) (place : ℕ) → IsFront (b ∷ bs) piece → tokens_from place (b ∷ bs) ≡ defs.after_piece (given piece.shape place (take piece.len (b ∷ bs))) (tokens_from (place + piece.len) (drop piece.len (b ∷ bs)))
first_gives b bs piece place front =
    ap defs.tokens_of_pieces (first_cut b bs piece.len place front.longest front.some front.within)
    ∙ ap (λ r. defs.after_piece r (tokens_from (place + piece.len) (drop piece.len (b ∷ bs)))) (front.gives place)

-- ---- results

front_nothing : (r : Result (List defs.Placed) TextFault) → defs.in_front [] r ≡ r
front_nothing (Ok ts) = refl
front_nothing (Err fault) = refl

front_twice : (ts us : List defs.Placed) (r : Result (List defs.Placed) TextFault) → defs.in_front ts (defs.in_front us r) ≡ defs.in_front (ts ++ us) r
front_twice ts us (Ok vs) = ap (λ xs. Ok xs) (sym (append_assoc ts us vs))
front_twice ts us (Err fault) = refl

placed_more : (bytes : List ℕ) (ts us : List Token) → map (placed bytes) (ts ++ us) ≡ map (placed bytes) ts ++ map (placed bytes) us
placed_more bytes [] us = refl
placed_more bytes (t ∷ ts) us = ap (λ ps. placed bytes t ∷ ps) (placed_more bytes ts us)

-- what a piece gives, as the lexer answers it
gives_found : (bytes slice : List ℕ) (at to : ℕ) (shape : Shape) (found : Option Token) → slice_range bytes at to ≡ slice → to ≡ at + length slice → found_at shape at to ≡ Ok found → given shape at slice ≡ Ok (map (placed bytes) (option_to_list found))
gives_found bytes slice at to shapes.Gap found cut ends is =
    let e : None ≡ found = cc in ap (λ f. Ok (map (placed bytes) (option_to_list f))) e
gives_found bytes slice at to (shapes.Token kind) found cut ends is =
    let t : Token = record { kind = kind; from = at; to = to } in
    let e : Some t ≡ found = cc in
    let answer : List ℕ → ℕ → Result (List defs.Placed) TextFault = λ bs end. Ok (record { token = token_of kind bs; begins = at; ends = end } ∷ []) in
    ap₂ answer (sym cut) (sym ends) ∙ ap (λ f. Ok (map (placed bytes) (option_to_list f))) e
gives_found bytes slice at to shapes.BadByte found cut ends is = cc
gives_found bytes slice at to shapes.BadNumber found cut ends is = cc
gives_found bytes slice at to shapes.OpenComment found cut ends is = cc

stands_found : (at to : ℕ) (shape : Shape) (found : Option Token) (ts : List Token) → at < to → found_at shape at to ≡ Ok found → StandBetween 0 at ts → StandBetween 0 to (ts ++ option_to_list found)
stands_found at to shapes.Gap found ts some is between =
    let e : None ≡ found = cc in
    subst (λ f. StandBetween 0 to (ts ++ option_to_list f)) e
    (subst (λ us. StandBetween 0 to us) (sym (append-nil ts)) (stands_before 0 at to ts (omega arith) between))
stands_found at to (shapes.Token kind) found ts some is between =
    let t : Token = record { kind = kind; from = at; to = to } in
    let e : Some t ≡ found = cc in
    subst (λ f. StandBetween 0 to (ts ++ option_to_list f)) e (stands_more 0 at ts t (omega arith) some between)
stands_found at to shapes.BadByte found ts some is between = cc
stands_found at to shapes.BadNumber found ts some is between = cc
stands_found at to shapes.OpenComment found ts some is between = cc

-- ---- the way through a text

-- the tokens of a text are those so far, and then those of the rest, which begins at a place
pub record Lexed (bytes : List ℕ) (at : ℕ) (rest : List ℕ) (ts : List Token) : Type 0 where
  pub is_rest : rest ≡ drop at bytes
  pub count : at + length rest ≡ length bytes
  pub tokens : defs.tokens_of bytes ≡ defs.in_front (map (placed bytes) ts) (tokens_from at rest)
  pub apart : StandBetween 0 at ts

pub lexed_none : (bytes : List ℕ) (ts : List Token) → ts ≡ [] → Lexed bytes 0 bytes ts
lexed_none bytes ts is =
    subst (Lexed bytes 0 bytes) (sym is)
    (record { is_rest = refl; count = omega arith; tokens = sym (front_nothing (tokens_from 0 bytes)); apart = omega arith })

-- the tokens with the first piece of the rest cut
cut_rest : (bytes : List ℕ) (at : ℕ) (rest : List ℕ) (ts : List Token) (b : ℕ) (bs : List ℕ) (piece : Piece) → Lexed bytes at rest ts → rest ≡ b ∷ bs → IsFront (b ∷ bs) piece → defs.tokens_of bytes ≡ defs.in_front (map (placed bytes) ts) (defs.after_piece (given piece.shape at (take piece.len rest)) (tokens_from (at + piece.len) (drop piece.len rest)))
cut_rest bytes at rest ts b bs piece so_far is front =
    let step : List ℕ → Type 0 = λ xs. tokens_from at xs ≡ defs.after_piece (given piece.shape at (take piece.len xs)) (tokens_from (at + piece.len) (drop piece.len xs)) in
    so_far.tokens ∙ ap (defs.in_front (map (placed bytes) ts)) (subst step (sym is) (first_gives b bs piece at front))

pub lexed_more : (bytes : List ℕ) (at : ℕ) (rest : List ℕ) (ts : List Token) (b : ℕ) (bs : List ℕ) (piece : Piece) (found : Option Token) (us : List Token) → Lexed bytes at rest ts → rest ≡ b ∷ bs → IsFront (b ∷ bs) piece → found_at piece.shape at (at + piece.len) ≡ Ok found → us ≡ ts ++ option_to_list found → Lexed bytes (at + piece.len) (drop piece.len rest) us
lexed_more bytes at rest ts b bs piece found us so_far is front answer added =
    subst (Lexed bytes (at + len) (drop len rest)) (sym added) (record {
      is_rest = ap (drop len) so_far.is_rest ∙ drop-drop len at bytes;
      count = let n = so_far.count in omega (arith, within, length-drop len rest);
      tokens = cut_rest bytes at rest ts b bs piece so_far is front
          ∙ ap (λ r. defs.in_front (map (placed bytes) ts) (defs.after_piece r behind)) (gives_found bytes (take len rest) at (at + len) piece.shape found cut ends answer)
          ∙ front_twice (map (placed bytes) ts) (map (placed bytes) (option_to_list found)) behind
          ∙ ap (λ ps. defs.in_front ps behind) (sym (placed_more bytes ts (option_to_list found)));
      apart = stands_found at (at + len) piece.shape found ts some answer so_far.apart;
    })
  where
    len : ℕ
    len = piece.len

    behind : Result (List defs.Placed) TextFault
    behind = tokens_from (at + len) (drop len rest)

    within : len ≤ length rest
    within = subst (λ xs. len ≤ length xs) (sym is) front.within

    some : at < at + len
    some = let h = front.some in omega arith

    cut : slice_range bytes at (at + len) ≡ take len rest
    cut = let e : at + len - at ≡ len = omega arith in ap₂ take e (sym so_far.is_rest)

    ends : at + len ≡ at + length (take len rest)
    ends = omega (arith, within, length-take len rest)
