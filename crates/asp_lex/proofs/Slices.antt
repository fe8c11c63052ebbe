-- Tokens that stand one behind the other.
use Rattle.std.proofs.Common.{ℕ, zero, suc, ◌≤◌, ◌<◌, List, [], ◌∷◌, ◌++◌, length, get_or, arith}
use Rattle.asp_lex.specs.declared.tokens.Token.{Token}
use Rattle.asp_lex.specs.Slices.{StandBetween}

-- also before a later place
pub stands_before : (low high higher : ℕ) (ts : List Token) → high ≤ higher → StandBetween low high ts → StandBetween low higher ts
stands_before low high higher [] h between = omega arith
stands_before low high higher (t ∷ ts) h between =
    (between.0, between.1, stands_before t.to high higher ts h between.2)

-- one token more
pub stands_more : (low high : ℕ) (ts : List Token) (t : Token) → high ≤ t.from → t.from < t.to → StandBetween low high ts → StandBetween low t.to (ts ++ t ∷ [])
stands_more low high [] t before some between = (omega arith, some, omega arith)
stands_more low high (u ∷ ts) t before some between =
    (between.0, between.1, stands_more u.to high ts t before some between.2)

stands_in_order : (low high : ℕ) (ts : List Token) → StandBetween low high ts → low ≤ high
stands_in_order low high [] between = between
stands_in_order low high (t ∷ ts) between =
    let h = stands_in_order t.to high ts between.2 in
    let first = between.0 in
    let some = between.1 in omega arith

-- each token has a byte and stands between the two places
pub slice_at : (low high : ℕ) (ts : List Token) (i : ℕ) (t : Token) → StandBetween low high ts → i < length ts → ((get_or ts i t).from < (get_or ts i t).to) × ((get_or ts i t).to ≤ high)
slice_at low high [] i t between within = absurd (omega arith)
slice_at low high (u ∷ ts) zero t between within = (between.1, stands_in_order u.to high ts between.2)
slice_at low high (u ∷ ts) (suc i) t between within = slice_at u.to high ts i t between.2 (omega arith)
