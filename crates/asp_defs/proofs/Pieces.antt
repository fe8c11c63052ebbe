-- The pieces of a text: together they are the text, and each is the longest front at its place.
use Rattle.std.proofs.Common.{ℕ, zero, suc, ◌≤◌, ◌<◌, ◌≡◌, ◌⊎◌, refl, sym, ◌∙◌, ap, subst, inl, inr, Bool, true, false, List, [], ◌∷◌, ◌++◌, length, take, drop, arith}
use Rattle.std.specs.Prelude.{Option, None, Some, is_some, pred}
use Rattle.std.specs.List.{flat_map}
use Rattle.asp_defs.specs.Tokens.{Shape, shape_of, longest_front, Piece, pieces_from}
use Rattle.asp_defs.specs.TextLaws.{PiecesAreTheText, FrontsAreLongest, LongestFrontIs}
use Rattle.asp_defs.proofs.Lists.{true_or_false}
use Rattle.asp_defs.proofs.TextRefutations.{clash}

-- one step of the search for the longest front, by whether the front is something
abbrev chosen : ℕ → List ℕ → Bool → ℕ
chosen most bytes found = elim found [ true ↦ suc most | false ↦ longest_front most bytes ]

found_some : (most : ℕ) (bytes : List ℕ) → is_some (shape_of (take (suc most) bytes)) ≡ true → longest_front (suc most) bytes ≡ suc most
found_some most bytes h = ap (chosen most bytes) h

found_none : (most : ℕ) (bytes : List ℕ) → is_some (shape_of (take (suc most) bytes)) ≡ false → longest_front (suc most) bytes ≡ longest_front most bytes
found_none most bytes h = ap (chosen most bytes) h

-- a front has a byte
front_suc : (most : ℕ) (bytes : List ℕ) → (m : ℕ) × (longest_front most bytes ≡ suc m)
front_suc zero bytes = (0, refl)
front_suc (suc most) bytes = elim (true_or_false (is_some (shape_of (take (suc most) bytes)))) [
  | inl h ↦ (most, found_some most bytes h)
  | inr h ↦ let rest = front_suc most bytes in (rest.0, found_none most bytes h ∙ rest.1)
]

take_and_drop : (n : ℕ) (bs : List ℕ) → take n bs ++ drop n bs ≡ bs
take_and_drop zero bs = refl
take_and_drop (suc n) [] = refl
take_and_drop (suc n) (b ∷ bs) = ap (λ cs. b ∷ cs) (take_and_drop n bs)

-- the bytes of the pieces behind those that are taken are what is left of the bytes
left_over : (taken place : ℕ) (bs : List ℕ) → flat_map (λ (p : Piece). p.bytes) (pieces_from taken place bs) ≡ drop taken bs
left_over zero place [] = refl
left_over (suc taken) place [] = refl
left_over (suc taken) place (b ∷ bs) = left_over taken (suc place) bs
left_over zero place (b ∷ bs) =
    let front = front_suc (length (b ∷ bs)) (b ∷ bs) in
    ap (λ rest. take (longest_front (length (b ∷ bs)) (b ∷ bs)) (b ∷ bs) ++ rest) (left_over (pred (longest_front (length (b ∷ bs)) (b ∷ bs))) (suc place) bs)
    ∙ ap (λ len. take len (b ∷ bs) ++ drop (pred len) bs) front.1
    ∙ ap (λ cs. b ∷ cs) (take_and_drop front.0 bs)

pub pieces_are_the_text : PiecesAreTheText
pieces_are_the_text bytes = left_over 0 0 bytes

-- ---- the longest

nothing : (found : Option Shape) → is_some found ≡ false → found ≡ None
nothing None h = refl
nothing (Some s) h = clash (sym h)

-- at most the number before, or that number
is_last : (k n : ℕ) → k ≤ suc n → (k ≤ n) ⊎ (k ≡ suc n)
is_last k n h = grind arith

none_longer : (most : ℕ) (bytes : List ℕ) (m : ℕ) → longest_front most bytes < m → m ≤ most → shape_of (take m bytes) ≡ None
none_longer zero bytes m long short = absurd (omega arith)
none_longer (suc most) bytes m long short = go (true_or_false (is_some (shape_of (take (suc most) bytes)))) (none_longer most bytes)
  where
    at_most : (is_some (shape_of (take (suc most) bytes)) ≡ false) → (m ≤ most) ⊎ (m ≡ suc most) → ((k : ℕ) → longest_front most bytes < k → k ≤ most → shape_of (take k bytes) ≡ None) → shape_of (take m bytes) ≡ None
    at_most h (inl small) rest = rest m (subst (λ len. len < m) (found_none most bytes h) long) small
    at_most h (inr last) rest = ap (λ k. shape_of (take k bytes)) last ∙ nothing (shape_of (take (suc most) bytes)) h

    go : (is_some (shape_of (take (suc most) bytes)) ≡ true) ⊎ (is_some (shape_of (take (suc most) bytes)) ≡ false) → ((k : ℕ) → longest_front most bytes < k → k ≤ most → shape_of (take k bytes) ≡ None) → shape_of (take m bytes) ≡ None
    go (inl h) rest = let long' = subst (λ len. len < m) (found_some most bytes h) long in absurd (omega arith)
    go (inr h) rest = at_most h (is_last m most short) rest

pub fronts_are_longest : FrontsAreLongest
fronts_are_longest bytes len long short = none_longer (length bytes) bytes len long short

-- the search comes to a front that is something, if no longer one is
comes_to : (most : ℕ) (bytes : List ℕ) (len : ℕ) → 0 < len → len ≤ most → is_some (shape_of (take len bytes)) ≡ true → ((more : ℕ) → len < more → more ≤ most → shape_of (take more bytes) ≡ None) → longest_front most bytes ≡ len
comes_to zero bytes len some short h none = absurd (omega arith)
comes_to (suc most) bytes len some short h none = go (is_last len most short) (comes_to most bytes len some)
  where
    go : (len ≤ most) ⊎ (len ≡ suc most) → (len ≤ most → is_some (shape_of (take len bytes)) ≡ true → ((more : ℕ) → len < more → more ≤ most → shape_of (take more bytes) ≡ None) → longest_front most bytes ≡ len) → longest_front (suc most) bytes ≡ len
    go (inr last) rest = found_some most bytes (subst (λ k. is_some (shape_of (take k bytes)) ≡ true) last h) ∙ sym last
    go (inl small) rest =
        found_none most bytes (ap is_some (none (suc most) (omega arith) (omega arith)))
        ∙ rest small h (λ more long short'. none more long (omega arith))

pub longest_front_is : LongestFrontIs
longest_front_is bytes len some short h none = comes_to (length bytes) bytes len some short h none
