-- True places, one place after another.
use Rattle.std.proofs.Common.{◌≡◌, refl, sym, ap, ◌∙◌, ℕ, suc, ◌+◌, ◌<◌, Bool, true, false, cond, List, [], ◌∷◌, ◌++◌, length, take, Some, append-nil, arith}
use Rattle.std.specs.List.{slice_get}
use Rattle.std.proofs.lemmas.List.{take_more, length-take-le}
use Rattle.std.proofs.lemmas.Option.{get_or_from_slice_get}
use Rattle.asp_bits.specs.Places.{true_from, true_places}

-- one more value
true_from-more : (first : ℕ) (values : List Bool) (x : Bool) → true_from first (values ++ x ∷ []) ≡ true_from first values ++ cond x ((first + length values) ∷ []) []
true_from-more first [] true = ap (λ k. k ∷ []) (omega arith)
true_from-more first [] false = refl
true_from-more first (true ∷ values) x =
    ap (λ xs. first ∷ xs) (true_from-more (suc first) values x ∙ ap (λ k. true_from (suc first) values ++ cond x (k ∷ []) []) (omega arith))
true_from-more first (false ∷ values) x =
    true_from-more (suc first) values x ∙ ap (λ k. true_from (suc first) values ++ cond x (k ∷ []) []) (omega arith)

true-step : (values : List Bool) (k : ℕ) (x : Bool) → k < length values → slice_get values k ≡ Some x
    → true_places (take (k + 1) values) ≡ true_places (take k values) ++ cond x (k ∷ []) []
true-step values k x h read =
    ap true_places (take_more values k false h ∙ ap (λ b. take k values ++ b ∷ []) (get_or_from_slice_get values k x false read))
    ∙ (true_from-more 0 (take k values) x
    ∙ ap (λ n. true_places (take k values) ++ cond x (n ∷ []) []) (omega (arith, length-take-le k values (omega (arith, h)))))

pub true_added : (values : List Bool) (k : ℕ) (atoms : List ℕ) → k < length values → slice_get values k ≡ Some true
    → atoms ≡ true_places (take k values) → atoms ++ k ∷ [] ≡ true_places (take (k + 1) values)
true_added values k atoms h read are = ap (λ xs. xs ++ k ∷ []) are ∙ sym (true-step values k true h read)

pub true_passed : (values : List Bool) (k : ℕ) (atoms : List ℕ) → k < length values → slice_get values k ≡ Some false
    → atoms ≡ true_places (take k values) → atoms ≡ true_places (take (k + 1) values)
true_passed values k atoms h read are = are ∙ (sym (append-nil (true_places (take k values))) ∙ sym (true-step values k false h read))
