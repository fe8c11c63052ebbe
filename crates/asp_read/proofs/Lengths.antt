-- How many tokens there are.
use Rattle.std.proofs.Common.{ℕ, ◌+◌, ◌≤◌, List, [], ◌∷◌, length, arith}
use Rattle.asp_lex.specs.declared.tokens.Token.{Token}
use Rattle.asp_lex.specs.Slices.{StandBetween}

-- each token has a byte, so that there are no more tokens than bytes
pub few : (low high : ℕ) (ts : List Token) → StandBetween low high ts → low + length ts ≤ high
few low high [] between = omega arith
few low high (t ∷ ts) between =
    let h = few t.to high ts between.2 in
    let first = between.0 in
    let some = between.1 in omega arith
