-- How many true places pass a test.
use Rattle.std.proofs.Common.{ℕ, ◌+◌, ◌<◌, ◌≡◌, refl, sym, ap, ◌∙◌, subst, Bool, true, false, ◌&&◌, cond, List, [], ◌∷◌, ◌++◌, length, take, get_or, arith, length-append}
use Rattle.std.specs.List.{filter}
use Rattle.std.proofs.lemmas.List.{take_more, length-take-le}
use Rattle.std.proofs.lemmas.List.Elements.{filter-append}
use Rattle.asp_bits.specs.Places.{true_places}
use Rattle.asp_reduct.proofs.Truths.{holds-true_places}
use Rattle.asp_defs.specs.Interpretations.{holds}
use Rattle.asp_entry.proofs.CubeLiterals.{true_from-more}

-- one more place
places-step : (values : List Bool) (k : ℕ) → k < length values
    → true_places (take (k + 1) values) ≡ true_places (take k values) ++ cond (holds (true_places values) k) (k ∷ []) []
places-step values k h =
    ap true_places (take_more values k false h)
    ∙ (true_from-more 0 (take k values) (get_or values k false)
    ∙ (ap (λ n. true_places (take k values) ++ cond (get_or values k false) (n ∷ []) []) (omega (arith, length-take-le k values (omega (arith, h))))
    ∙ ap (λ x. true_places (take k values) ++ cond x (k ∷ []) []) (sym (holds-true_places values k))))

alone : (p : ℕ → Bool) (k : ℕ) (x : Bool) → length (filter p (cond x (k ∷ []) [])) ≡ cond (x && p k) 1 0
alone p k false = refl
alone p k true = go (p k)
  where
    go : (t : Bool) → length (cond t (k ∷ []) []) ≡ cond t 1 0
    go true = refl
    go false = refl

counted-more : (p : ℕ → Bool) (values : List Bool) (k count : ℕ) (b : Bool) → k < length values → b ≡ (holds (true_places values) k && p k)
    → count ≡ length (filter p (true_places (take k values))) → count + cond b 1 0 ≡ length (filter p (true_places (take (k + 1) values)))
counted-more p values k count b h is so_far =
    let x = holds (true_places values) k in
    let before = true_places (take k values) in
    ap (λ n. n + cond b 1 0) so_far
    ∙ (ap (λ t. length (filter p before) + cond t 1 0) is
    ∙ (ap (λ n. length (filter p before) + n) (sym (alone p k x))
    ∙ (sym (length-append (filter p before) (filter p (cond x (k ∷ []) [])))
    ∙ (ap length (sym (filter-append p before (cond x (k ∷ []) [])))
    ∙ ap (λ xs. length (filter p xs)) (sym (places-step values k h))))))

-- the place is counted, or it isn't
pub counted-in : (p : ℕ → Bool) (values : List Bool) (k count now : ℕ) (b : Bool) → k < length values → b ≡ (holds (true_places values) k && p k)
    → count ≡ length (filter p (true_places (take k values))) → b ≡ true → now ≡ count + 1 → now ≡ length (filter p (true_places (take (k + 1) values)))
counted-in p values k count now b h is so_far passes now_is =
    now_is
    ∙ subst (λ (t : Bool). count + cond t 1 0 ≡ length (filter p (true_places (take (k + 1) values)))) passes (counted-more p values k count b h is so_far)

pub counted-out : (p : ℕ → Bool) (values : List Bool) (k count now : ℕ) (b : Bool) → k < length values → b ≡ (holds (true_places values) k && p k)
    → count ≡ length (filter p (true_places (take k values))) → b ≡ false → now ≡ count → now ≡ length (filter p (true_places (take (k + 1) values)))
counted-out p values k count now b h is so_far fails now_is =
    let plain : now ≡ count + 0 = omega (arith, now_is) in
    plain
    ∙ subst (λ (t : Bool). count + cond t 1 0 ≡ length (filter p (true_places (take (k + 1) values)))) fails (counted-more p values k count b h is so_far)
