-- How far the bytes at the front pass a test.
use Rattle.std.proofs.Common.{ℕ, zero, suc, ◌+◌, ◌≤◌, ◌<◌, ◌≡◌, refl, ◌∙◌, ap, subst, Bool, true, false, ◌&&◌, cond, List, [], ◌∷◌, ◌++◌, length, take, arith}
use Rattle.std.specs.List.{list_all, prefix_len}

pub prefix_within : (p : ℕ → Bool) (cs : List ℕ) → prefix_len p cs ≤ length cs
prefix_within p [] = omega arith
prefix_within p (c ∷ cs) = go (p c) (prefix_within p cs)
  where
    go : (b : Bool) → prefix_len p cs ≤ length cs → cond b (1 + prefix_len p cs) 0 ≤ length (c ∷ cs)
    go true h = omega arith
    go false h = omega arith

-- a list's front is all right, by its first byte
all_cons : (p : ℕ → Bool) (c : ℕ) (ds : List ℕ) → p c ≡ true → list_all p (c ∷ ds) ≡ list_all p ds
all_cons p c ds h = ap (λ (b : Bool). b && list_all p ds) h

none_cons : (p : ℕ → Bool) (c : ℕ) (ds : List ℕ) → p c ≡ false → list_all p (c ∷ ds) ≡ false
none_cons p c ds h = ap (λ (b : Bool). b && list_all p ds) h

-- all bytes of the front pass
pub prefix_passes : (p : ℕ → Bool) (cs : List ℕ) → list_all p (take (prefix_len p cs) cs) ≡ true
prefix_passes p [] = refl
prefix_passes p (c ∷ cs) = go (p c) refl (prefix_passes p cs)
  where
    go : (b : Bool) → p c ≡ b → list_all p (take (prefix_len p cs) cs) ≡ true → list_all p (take (cond b (1 + prefix_len p cs) 0) (c ∷ cs)) ≡ true
    go false h rest = refl
    go true h rest =
        let e : suc (prefix_len p cs) ≡ 1 + prefix_len p cs = omega arith in
        subst (λ k. list_all p (take k (c ∷ cs)) ≡ true) e (all_cons p c (take (prefix_len p cs) cs) h ∙ rest)

-- no longer front passes
pub prefix_stops : (p : ℕ → Bool) (cs : List ℕ) (more : ℕ) → prefix_len p cs < more → more ≤ length cs → list_all p (take more cs) ≡ false
prefix_stops p [] more long short = absurd (omega arith)
prefix_stops p (c ∷ cs) zero long short = absurd (omega arith)
prefix_stops p (c ∷ cs) (suc more) long short = go (p c) refl long (prefix_stops p cs more)
  where
    go : (b : Bool) → p c ≡ b → cond b (1 + prefix_len p cs) 0 < suc more → (prefix_len p cs < more → more ≤ length cs → list_all p (take more cs) ≡ false) → list_all p (take (suc more) (c ∷ cs)) ≡ false
    go true h far rest = all_cons p c (take more cs) h ∙ rest (omega arith) (omega arith)
    go false h far rest = none_cons p c (take more cs) h

-- the front of what stands behind some bytes
pub take_behind : (before cs : List ℕ) (m : ℕ) → take (length before + m) (before ++ cs) ≡ before ++ take m cs
take_behind [] cs m = let e : 0 + m ≡ m = omega arith in ap (λ k. take k cs) e
take_behind (b ∷ before) cs m =
    let e : length (b ∷ before) + m ≡ suc (length before + m) = omega arith in
    ap (λ k. take k (b ∷ before ++ cs)) e ∙ ap (λ ds. b ∷ ds) (take_behind before cs m)

pub length_behind : (before cs : List ℕ) → length (before ++ cs) ≡ length before + length cs
length_behind [] cs = omega arith
length_behind (b ∷ before) cs = let e = length_behind before cs in omega arith
