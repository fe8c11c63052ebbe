-- The variables of a list, each once: which they are, how many, and that they are found from the front.
use Rattle.std.proofs.Common.{suc, ◌≡◌, ◌⊎◌, ◌<◌, ◌≤◌, ◌+◌, refl, sym, ◌∙◌, ap, subst, inl, inr, Bool, true, false, not, ◌||◌, cond, List, [], ◌∷◌, ◌++◌, append_assoc, append-nil, length, arith}
use Rattle.std.specs.Prelude.{if◌then◌else◌}
use Rattle.std.specs.List.{filter, fold, list_any, position_or_len}
use Rattle.std.proofs.lemmas.Bool.{lt-ltb}
use Rattle.asp_defs.specs.declared.syntax.Term.{Term}
use Rattle.asp_defs.specs.Lists.{IsIn}
use Rattle.asp_defs.specs.Instances.{same_variable, first_occurrences}
use Rattle.asp_defs.specs.Safety.{is_variable_of}
use Rattle.asp_defs.proofs.Lists.{any_at, any_from, filter_at, filter_from, true_or_false, not_true, not_false, append_left, or_left, or_right}
use Rattle.asp_defs.proofs.TextRefutations.{clash}
use Rattle.asp_defs.proofs.SafetyLaws.{equal}
use Rattle.asp_safety.proofs.Members.{same_truth}
use Rattle.asp_safety.proofs.Occurrences.{occurrences_more, others_few}
use Rattle.asp_safety.proofs.Occurrences.{others, same_back}
use Rattle.asp_template.specs.Variables.{with_variable}

-- ---- variables of a list, each once

pub kept_in : (v w : Term) (vs : List Term) → same_variable w v ≡ false → is_variable_of vs w ≡ true → is_variable_of (filter (λ u. not (same_variable v u)) vs) w ≡ true
kept_in v w vs apart h =
    let found = any_at (same_variable w) vs h in
    any_from (same_variable w) (filter (λ u. not (same_variable v u)) vs) found.0 (filter_from (λ u. not (same_variable v u)) vs found.0 found.1 (not_false (same_variable v found.0) (other found.0 found.2 (true_or_false (same_variable v found.0))))) found.2
  where
    other : (u : Term) → same_variable w u ≡ true → (same_variable v u ≡ true) ⊎ (same_variable v u ≡ false) → same_variable v u ≡ false
    other u same (inl e) = clash (sym apart ∙ subst (λ (x : Term). same_variable w x ≡ true) (sym (equal v u e)) same)
    other u same (inr e) = e

pub occurs : (ws : List Term) (w : Term) → same_variable w w ≡ true → IsIn w ws → is_variable_of (first_occurrences ws) w ≡ true
occurs [] w self i = absurd i
occurs (v ∷ ws) w self (inl e) =
    or_left (same_variable w v) (is_variable_of (filter (λ u. not (same_variable v u)) (first_occurrences ws)) w) (subst (λ (u : Term). same_variable w u ≡ true) e self)
occurs (v ∷ ws) w self (inr i) = elim (true_or_false (same_variable w v)) [
  | inl e ↦ or_left (same_variable w v) (is_variable_of (filter (λ u. not (same_variable v u)) (first_occurrences ws)) w) e
  | inr e ↦ or_right (same_variable w v) (is_variable_of (filter (λ u. not (same_variable v u)) (first_occurrences ws)) w) (kept_in v w (first_occurrences ws) e (occurs ws w self i))
]

pub any_place : {A : Type 0} (p : A → Bool) (xs : List A) → list_any p xs ≡ true → position_or_len p xs < length xs
any_place p [] h = clash h
any_place p (x ∷ xs) h = elim (true_or_false (p x)) [
  | inl e ↦ let here : position_or_len p (x ∷ xs) ≡ 0 = ap (λ b. cond (not b) (1 + position_or_len p xs) 0) e in omega (arith, here)
  | inr e ↦
      let later : position_or_len p (x ∷ xs) ≡ 1 + position_or_len p xs = ap (λ b. cond (not b) (1 + position_or_len p xs) 0) e in
      let rest = any_place p xs (sym (ap (λ b. b || list_any p xs) e) ∙ h) in
      omega (arith, later, rest)
]

-- ---- variables that are apart

-- none is the same as one before it
abbrev Apart : List Term → Type 0
Apart [] = Unit {0}
Apart (x ∷ xs) = ((y : Term) → IsIn y xs → same_variable y x ≡ false) × Apart xs

apart_back : (v w : Term) → same_variable v w ≡ false → same_variable w v ≡ false
apart_back v w h = elim (true_or_false (same_variable w v)) [
  | inl e ↦ clash (sym h ∙ same_back w v e)
  | inr e ↦ e
]

apart_filter : (p : Term → Bool) (xs : List Term) → Apart xs → Apart (filter p xs)
apart_filter p [] h = tt
apart_filter p (x ∷ xs) h = elim (true_or_false (p x)) [
  | inl e ↦ subst (λ (b : Bool). Apart (cond b (x ∷ filter p xs) (filter p xs))) (sym e) (λ y i. h.0 y (filter_at p xs y i).0, apart_filter p xs h.1)
  | inr e ↦ subst (λ (b : Bool). Apart (cond b (x ∷ filter p xs) (filter p xs))) (sym e) (apart_filter p xs h.1)
]

occurrences_apart : (vs : List Term) → Apart (first_occurrences vs)
occurrences_apart [] = tt
occurrences_apart (v ∷ vs) = (
  λ y i. apart_back v y (not_true (same_variable v y) (filter_at (λ w. not (same_variable v w)) (first_occurrences vs) y i).1),
  apart_filter (λ w. not (same_variable v w)) (first_occurrences vs) (occurrences_apart vs),
)

drop_one : (x : Term) (ds : List Term) → is_variable_of ds x ≡ true → length (others x ds) + 1 ≤ length ds
drop_one x [] h = clash h
drop_one x (d ∷ ds) h = elim (true_or_false (same_variable x d)) [
  | inl e ↦
      let same : length (others x (d ∷ ds)) ≡ length (others x ds) = ap (λ b. length (cond (not b) (d ∷ others x ds) (others x ds))) e in
      let few = others_few x ds in omega (arith, same, few)
  | inr e ↦
      let more : length (others x (d ∷ ds)) ≡ suc (length (others x ds)) = ap (λ b. length (cond (not b) (d ∷ others x ds) (others x ds))) e in
      let rest = drop_one x ds (sym (ap (λ b. b || is_variable_of ds x) e) ∙ h) in omega (arith, more, rest)
]

few_apart : (fs ds : List Term) → Apart fs → ((x : Term) → IsIn x fs → is_variable_of ds x ≡ true) → length fs ≤ length ds
few_apart [] ds apart h = omega arith
few_apart (f ∷ fs) ds apart h =
    let one = drop_one f ds (h f (inl refl)) in
    let rest = few_apart fs (others f ds) apart.1 (λ x i. kept_in f x ds (apart.0 x i) (h x (inr i))) in
    omega (arith, one, rest)

from_occurrences : (vs : List Term) (x : Term) → IsIn x (first_occurrences vs) → IsIn x vs
from_occurrences [] x i = absurd i
from_occurrences (v ∷ vs) x (inl e) = inl e
from_occurrences (v ∷ vs) x (inr i) =
    inr (from_occurrences vs x (filter_at (λ w. not (same_variable v w)) (first_occurrences vs) x i).0)

-- fewer variables have fewer occurrences
pub few_among : (vs ws : List Term) → ((w : Term) → IsIn w vs → same_variable w w ≡ true) → ((w : Term) → IsIn w vs → IsIn w ws) → length (first_occurrences vs) ≤ length (first_occurrences ws)
few_among vs ws self within =
    few_apart (first_occurrences vs) (first_occurrences ws) (occurrences_apart vs)
    (λ x i. occurs ws x (self x (from_occurrences vs x i)) (within x (from_occurrences vs x i)))

-- ---- variables that are found from the front

once_test : (vs : List Term) (v : Term) → is_variable_of (first_occurrences vs) v ≡ is_variable_of vs v
once_test vs v = same_truth (is_variable_of (first_occurrences vs) v) (is_variable_of vs v) forth back
  where
    forth : is_variable_of (first_occurrences vs) v ≡ true → is_variable_of vs v ≡ true
    forth h =
        let found = any_at (same_variable v) (first_occurrences vs) h in
        any_from (same_variable v) vs found.0 (from_occurrences vs found.0 found.1) found.2

    back : is_variable_of vs v ≡ true → is_variable_of (first_occurrences vs) v ≡ true
    back h =
        let found = any_at (same_variable v) vs h in
        let e = equal v found.0 found.2 in
        occurs vs v (subst (λ (z : Term). same_variable v z ≡ true) (sym e) found.2) (subst (λ (z : Term). IsIn z vs) (sym e) found.1)

with_room : (found : List Term) (v : Term) → length found < 17 → with_variable found v ≡ (if is_variable_of found v then found else found ++ v ∷ [])
with_room found v h =
    ap (λ b. if is_variable_of found v then found else (if b then found ++ v ∷ [] else found)) (lt-ltb (length found) 17 h)

-- one variable more
found_more : (vs : List Term) (v : Term) → length (first_occurrences vs) < 17 → with_variable (first_occurrences vs) v ≡ first_occurrences (vs ++ v ∷ [])
found_more vs v h =
    with_room (first_occurrences vs) v h
    ∙ (ap (λ b. if b then first_occurrences vs else first_occurrences vs ++ v ∷ []) (once_test vs v)
    ∙ sym (occurrences_more vs v))

found_behind : (done rest : List Term) → ((w : Term) → IsIn w (done ++ rest) → same_variable w w ≡ true) → length (first_occurrences (done ++ rest)) ≤ 16 → fold with_variable (first_occurrences done) rest ≡ first_occurrences (done ++ rest)
found_behind done [] self few = ap first_occurrences (sym (append-nil done))
found_behind done (v ∷ rest) self few =
    let fewer = few_among done (done ++ v ∷ rest) (λ w i. self w (append_left done (v ∷ rest) w i)) (λ w i. append_left done (v ∷ rest) w i) in
    let same : (done ++ v ∷ []) ++ rest ≡ done ++ v ∷ rest = append_assoc done (v ∷ []) rest in
    ap (λ found. fold with_variable found rest) (found_more done v (omega (arith, few, fewer)))
    ∙ (found_behind (done ++ v ∷ []) rest
    (λ w i. self w (subst (λ (ws : List Term). IsIn w ws) same i))
    (subst (λ (ws : List Term). length (first_occurrences ws) ≤ 16) (sym same) few)
    ∙ ap first_occurrences same)

pub found_is : (vs : List Term) → ((w : Term) → IsIn w vs → same_variable w w ≡ true) → length (first_occurrences vs) ≤ 16 → fold with_variable [] vs ≡ first_occurrences vs
found_is vs self few = found_behind [] vs self few
