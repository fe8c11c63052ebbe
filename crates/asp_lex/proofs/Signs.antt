-- The fronts that are signs, and bytes that begin nothing.
use Rattle.std.proofs.Common.{ℕ, zero, suc, ◌≤◌, ◌<◌, ◌≡◌, refl, sym, ◌∙◌, ap, Bool, true, false, not, cond, ◌&&◌, ◌==◌, nat_le, leb-true, List, [], ◌∷◌, length, take, bytes_eq, find, pos, neg_ℤ, arith}
use Rattle.std.specs.Prelude.{Option, None, Some}
use Rattle.std.specs.List.{list_all}
use Rattle.std.specs.Str.Parse.{digits_value}
use Rattle.std.proofs.Math.Bool.{and-false}
use Rattle.asp_defs.specs.Tokens as defs
use Rattle.asp_defs.proofs.TextRefutations.{clash}
use Rattle.asp_lex.specs.declared.tokens.Tok.{Tok}
use Rattle.asp_lex.specs.declared.tokens.Tok.TheVariants.{Minus}
use Rattle.asp_lex.specs.declared.pieces.Shape.TheVariants as shapes
use Rattle.asp_lex.specs.Slices.{token_of}
use Rattle.asp_lex.specs.Fronts.{IsFront, begins_digit, may_begin_sign, long_sign_shape, sign_shape_of}
use Rattle.asp_lex.proofs.Fronts.{front_from, nothing_from}
use Rattle.asp_lex.proofs.Classes.{sign_class, gives_token}

good_one : (x y : Bool) → (not x && y) ≡ true → x ≡ false
good_one false y h = refl
good_one true y h = sym h

first_holds : (x y : Bool) → (x && y) ≡ true → x ≡ true
first_holds true y h = refl
first_holds false y h = h

others_hold : (x y : Bool) → (x && y) ≡ true → y ≡ true
others_hold true y h = h
others_hold false y h = clash h

-- no sign has three bytes
abbrev is_short : List ℕ × defs.Token → Bool
is_short sign = nat_le (length sign.0) 2

differs : (b c d : ℕ) (ds sign : List ℕ) → nat_le (length sign) 2 ≡ true → bytes_eq (b ∷ c ∷ d ∷ ds) sign ≡ false
differs b c d ds [] h = refl
differs b c d ds (x ∷ []) h = and-false (b == x)
differs b c d ds (x ∷ y ∷ []) h = ap (λ z. (b == x) && z) (and-false (c == y)) ∙ and-false (b == x)
differs b c d ds (x ∷ y ∷ z ∷ zs) h = absurd (omega (arith, leb-true (length (x ∷ y ∷ z ∷ zs)) 2 h))

none_found : (b c d : ℕ) (ds : List ℕ) (table : List (List ℕ × defs.Token)) → list_all is_short table ≡ true → find (λ sign. bytes_eq (b ∷ c ∷ d ∷ ds) sign.0) table ≡ None
none_found b c d ds [] h = refl
none_found b c d ds (s ∷ table) h =
    ap (λ x. cond x (Some s) (find (λ (sign : List ℕ × defs.Token). bytes_eq (b ∷ c ∷ d ∷ ds) sign.0) table))
    (differs b c d ds s.0 (first_holds (is_short s) (list_all is_short table) h))
    ∙ none_found b c d ds table (others_hold (is_short s) (list_all is_short table) h)

none_of_three : (b c d : ℕ) (ds : List ℕ) → defs.sign_shape (b ∷ c ∷ d ∷ ds) ≡ None
none_of_three b c d ds =
    ap (λ (found : Option (List ℕ × defs.Token)). elim found [
      | Some sign ↦ Some (defs.TokenShape sign.1)
      | None ↦ None
    ]) (none_found b c d ds defs.signs refl)

-- no sign is a number
abbrev is_good : List ℕ × defs.Token → Bool
is_good sign = not (defs.is_bad_number sign.1)

good_in : (p : List ℕ × defs.Token → Bool) (table : List (List ℕ × defs.Token)) → list_all is_good table ≡ true → (t : defs.Token) → (elim (find p table) [
  | Some sign ↦ Some (defs.TokenShape sign.1)
  | None ↦ None
]) ≡ Some (defs.TokenShape t) → defs.is_bad_number t ≡ false
good_in p [] all t e = cc
good_in p (s ∷ table) all t e = go (p s) e (good_in p table (others_hold (is_good s) (list_all is_good table) all) t)
  where
    go : (b : Bool) → (elim (cond b (Some s) (find p table)) [
      | Some sign ↦ Some (defs.TokenShape sign.1)
      | None ↦ None
    ]) ≡ Some (defs.TokenShape t) → ((elim (find p table) [
      | Some sign ↦ Some (defs.TokenShape sign.1)
      | None ↦ None
    ]) ≡ Some (defs.TokenShape t) → defs.is_bad_number t ≡ false) → defs.is_bad_number t ≡ false
    go true e rest =
        let same : s.1 ≡ t = cc in
        ap defs.is_bad_number (sym same) ∙ good_one (defs.is_bad_number s.1) (list_all is_good table) all
    go false e rest = rest e

sign_is_good : (bytes : List ℕ) (t : defs.Token) → Some (defs.TokenShape t) ≡ defs.sign_shape bytes → defs.is_bad_number t ≡ false
sign_is_good bytes t h = good_in (λ sign. bytes_eq bytes sign.0) defs.signs refl t (sym h)

-- alone longer front is something
none_behind_two : (b c : ℕ) (rest : List ℕ) → may_begin_sign b ≡ true → (more : ℕ) → 2 < more → more ≤ length (b ∷ c ∷ rest) → defs.shape_of (take more (b ∷ c ∷ rest)) ≡ None
none_behind_two b c rest begins zero long short = absurd (omega arith)
none_behind_two b c rest begins (suc zero) long short = absurd (omega arith)
none_behind_two b c rest begins (suc (suc zero)) long short = absurd (omega arith)
none_behind_two b c [] begins (suc (suc (suc k))) long short = absurd (omega arith)
none_behind_two b c (d ∷ ds) begins (suc (suc (suc k))) long short =
    sign_class b (c ∷ d ∷ take k ds) begins ∙ none_of_three b c d (take k ds)

none_behind_one : (b : ℕ) (rest : List ℕ) → may_begin_sign b ≡ true → long_sign_shape b rest ≡ None → (more : ℕ) → 1 < more → more ≤ length (b ∷ rest) → defs.shape_of (take more (b ∷ rest)) ≡ None
none_behind_one b rest begins alone zero long short = absurd (omega arith)
none_behind_one b rest begins alone (suc zero) long short = absurd (omega arith)
none_behind_one b [] begins alone (suc (suc k)) long short = absurd (omega arith)
none_behind_one b (c ∷ cs) begins alone (suc (suc zero)) long short = sign_class b (c ∷ []) begins ∙ alone
none_behind_one b (c ∷ cs) begins alone (suc (suc (suc k))) long short =
    none_behind_two b c cs begins (suc (suc (suc k))) (omega arith) short

pub long_sign_front : (b : ℕ) (rest : List ℕ) (kind : Tok) → may_begin_sign b ≡ true → Some (sign_shape_of (b ∷ take 1 rest) kind) ≡ long_sign_shape b rest → IsFront (b ∷ rest) (record { shape = shapes.Token kind; len = 2 })
long_sign_front b [] kind begins h = cc
long_sign_front b (c ∷ cs) kind begins h =
    let bytes = b ∷ c ∷ [] in
    front_from (b ∷ c ∷ cs) (shapes.Token kind) 2 (sign_shape_of bytes kind) (omega arith) (omega arith)
    (sign_class b (c ∷ []) begins ∙ sym h) (none_behind_two b c cs begins)
    (gives_token (token_of kind bytes) kind bytes (sign_is_good bytes (token_of kind bytes) h) refl)

pub short_sign_front : (b : ℕ) (rest : List ℕ) (kind : Tok) → may_begin_sign b ≡ true → long_sign_shape b rest ≡ None → Some (sign_shape_of (b ∷ []) kind) ≡ defs.sign_shape (b ∷ []) → IsFront (b ∷ rest) (record { shape = shapes.Token kind; len = 1 })
short_sign_front b rest kind begins alone h =
    let bytes = b ∷ [] in
    front_from (b ∷ rest) (shapes.Token kind) 1 (sign_shape_of bytes kind) (omega arith) (omega arith)
    (sign_class b [] begins ∙ sym h) (none_behind_one b rest begins alone)
    (gives_token (token_of kind bytes) kind bytes (sign_is_good bytes (token_of kind bytes) h) refl)

pub no_sign_front : (b : ℕ) (rest : List ℕ) → may_begin_sign b ≡ true → long_sign_shape b rest ≡ None → None ≡ defs.sign_shape (b ∷ []) → IsFront (b ∷ rest) (record { shape = shapes.BadByte; len = 1 })
no_sign_front b rest begins alone h = nothing_from (b ∷ rest) (omega arith) all
  where
    all : (more : ℕ) → 0 < more → more ≤ length (b ∷ rest) → defs.shape_of (take more (b ∷ rest)) ≡ None
    all zero some short = absurd (omega arith)
    all (suc zero) some short = sign_class b [] begins ∙ sym h
    all (suc (suc k)) some short = none_behind_one b rest begins alone (suc (suc k)) (omega arith) short

-- a minus with no digit behind it
pub minus_front : (rest : List ℕ) → begins_digit rest ≡ false → IsFront (45 ∷ rest) (record { shape = shapes.Token Minus; len = 1 })
minus_front rest h =
    front_from (45 ∷ rest) (shapes.Token Minus) 1 (defs.TokenShape defs.MinusToken) (omega arith) (omega arith) refl (beyond rest h) (λ place. refl)
  where
    beyond : (rest : List ℕ) → begins_digit rest ≡ false → (more : ℕ) → 1 < more → more ≤ length (45 ∷ rest) → defs.shape_of (take more (45 ∷ rest)) ≡ None
    beyond rest h zero long short = absurd (omega arith)
    beyond rest h (suc zero) long short = absurd (omega arith)
    beyond [] h (suc (suc k)) long short = absurd (omega arith)
    beyond (d ∷ ds) h (suc (suc k)) long short =
        ap (λ x. defs.token_if (x && list_all defs.is_digit (take k ds)) (defs.NumberToken (neg_ℤ (pos (digits_value 10 (d ∷ take k ds)))))) h
