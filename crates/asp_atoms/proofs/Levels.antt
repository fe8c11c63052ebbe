-- What levels have, from level to level.
use Rattle.std.proofs.Common.{ℕ, zero, suc, ◌≡◌, ◌+◌, ◌<◌, ◌≤◌, refl, sym, ◌∙◌, ap, subst, inl, inr, List, [], ◌∷◌, ◌++◌, map, length, get_or, take, append-nil, arith, Bor}
use Rattle.std.specs.List.{flat_map}
use Rattle.std.specs.declared.cmp.Ordering.{Ordering}
use Rattle.std.proofs.lemmas.List.{take_more, get_or-map, length-map, map_push}
use Rattle.std.proofs.lemmas.List.Concat.{flat_map-append}
use Rattle.asp_defs.specs.declared.syntax.Rule.{Rule}
use Rattle.asp_defs.specs.Lists.{IsIn, numbers_from}
use Rattle.asp_defs.specs.Constants.{distinct}
use Rattle.asp_defs.proofs.Lists.{append_at, append_left, append_right}
use Rattle.asp_atoms.proofs.Orders.{IsLawful}
use Rattle.asp_atoms.proofs.Ascending.{same_distinct, in_distinct, distinct_from}

-- ---- numbers from one on

pub length_numbers : (first count : ℕ) → length (numbers_from first count) ≡ count
length_numbers first zero = refl
length_numbers first (suc count) = let rest = length_numbers (suc first) count in omega (arith, rest)

pub numbers_more : (first count : ℕ) → numbers_from first (count + 1) ≡ numbers_from first count ++ (first + count) ∷ []
numbers_more first zero =
    let e : first ≡ first + 0 = omega arith in ap (λ n. n ∷ []) e
numbers_more first (suc count) =
    let more : suc count + 1 ≡ suc (count + 1) = omega arith in
    let e : suc first + count ≡ first + suc count = omega arith in
    ap (numbers_from first) more
    ∙ (ap (λ ns. first ∷ ns) (numbers_more (suc first) count)
    ∙ ap (λ n. first ∷ (numbers_from (suc first) count ++ n ∷ [])) e)

pub get_number : (first count i d : ℕ) → i < count → get_or (numbers_from first count) i d ≡ first + i
get_number first zero i d h = absurd (omega arith)
get_number first (suc count) zero d h = omega arith
get_number first (suc count) (suc i) d h = let rest = get_number (suc first) count i d (omega arith) in omega (arith, rest)

module _ {A B : Type 0} (f : A → B) (u : ℕ → B) where
  pub value_long : (xs : List A) (count : ℕ) → map f xs ≡ map u (numbers_from 0 count) → length xs ≡ count
  value_long xs count e =
      let long = length-map xs f in
      let other = length-map (numbers_from 0 count) u in
      let same = ap length e in
      let count_is = length_numbers 0 count in
      omega (arith, long, other, same, count_is)

  -- what a list has at a place, where it has the values of a function at the numbers from 0 on
  pub value_at : (xs : List A) (count i : ℕ) (d : A) → map f xs ≡ map u (numbers_from 0 count) → i < count → f (get_or xs i d) ≡ u i
  value_at xs count i d e h =
      let long = length-map xs f in
      let other = length-map (numbers_from 0 count) u in
      let same = ap length e in
      let count_is = length_numbers 0 count in
      let here : i < length xs = omega (arith, long, other, same, count_is, h) in
      let there : i < length (numbers_from 0 count) = omega (arith, count_is, h) in
      sym (get_or-map f xs i d (f d) here)
      ∙ (ap (λ l. get_or l i (f d)) e
      ∙ (get_or-map u (numbers_from 0 count) i 0 (f d) there
      ∙ ap u (let n = get_number 0 count i 0 h in let z : get_or (numbers_from 0 count) i 0 ≡ i = omega (arith, n) in z)))

  pub value_more : (xs : List A) (count : ℕ) (x : A) → map f xs ≡ map u (numbers_from 0 count) → f x ≡ u count → map f (xs ++ x ∷ []) ≡ map u (numbers_from 0 (count + 1))
  value_more xs count x e here =
      map_push f xs x
      ∙ (ap (λ l. l ++ f x ∷ []) e
      ∙ (ap (λ y. map u (numbers_from 0 count) ++ y ∷ []) here
      ∙ (sym (map_push u (numbers_from 0 count) count) ∙ ap (map u) (sym numbers))))
    where
      numbers : numbers_from 0 (count + 1) ≡ numbers_from 0 count ++ count ∷ []
      numbers = numbers_more 0 count ∙ ap (λ n. numbers_from 0 count ++ n ∷ []) (let z : 0 + count ≡ count = omega arith in z)

-- ---- the distinct values of the rules of so many levels

module _ {A : Type 0} {R : A → A → Ordering} (law : IsLawful R) where
  pub distinct_more : (xs ys zs : List A) → xs ≡ distinct R ys → distinct R (xs ++ zs) ≡ distinct R (ys ++ zs)
  distinct_more xs ys zs e =
      ap (λ l. distinct R (l ++ zs)) e ∙ same_distinct law (distinct R ys ++ zs) (ys ++ zs) (record {
        whole = λ x i. elim (append_at (distinct R ys) zs x i) [
          | inl j ↦ append_left ys zs x (in_distinct law ys x j)
          | inr j ↦ append_right ys zs x j
        ];
        within = λ x i. elim (append_at ys zs x i) [
          | inl j ↦ append_left (distinct R ys) zs x (distinct_from law ys x j)
          | inr j ↦ append_right (distinct R ys) zs x j
        ];
      })

abbrev pub written_to : {A : Type 0} → (Rule → List A) → List (List Rule) → ℕ → List A
written_to f levels i = flat_map f (flat_map (λ rules. rules) (take i levels))

pub written_more : {A : Type 0} (f : Rule → List A) (levels : List (List Rule)) (i : ℕ) (d : List Rule) → i < length levels → written_to f levels (i + 1) ≡ written_to f levels i ++ flat_map f (get_or levels i d)
written_more f levels i d h =
    ap (λ ls. flat_map f (flat_map (λ (rules : List Rule). rules) ls)) (take_more levels i d h)
    ∙ (ap (flat_map f) (flat_map-append (λ (rules : List Rule). rules) (take i levels) (get_or levels i d ∷ [])
    ∙ ap (λ rs. flat_map (λ (rules : List Rule). rules) (take i levels) ++ rs) (append-nil (get_or levels i d)))
    ∙ flat_map-append f (flat_map (λ (rules : List Rule). rules) (take i levels)) (get_or levels i d))

-- one level more
pub level_more : {A : Type 0} {R : A → A → Ordering} (law : IsLawful R) (f : Rule → List A) (levels : List (List Rule)) (i : ℕ) (d : List Rule) (xs : List A) → i < length levels → xs ≡ distinct R (written_to f levels i) → distinct R (xs ++ flat_map f (get_or levels i d)) ≡ distinct R (written_to f levels (i + 1))
level_more {A} {R} law f levels i d xs h e =
    distinct_more law xs (written_to f levels i) (flat_map f (get_or levels i d)) e
    ∙ ap (distinct R) (sym (written_more f levels i d h))

-- one level more, where a list has what so many levels have
pub level_step : {A X : Type 0} {R : A → A → Ordering} (law : IsLawful R) (f : Rule → List A) (g : X → List A) (levels : List (Bor (List Rule))) (at : ℕ) (xs new : List X) (rules : Bor (List Rule)) (old x : X) → at < length levels → rules ≡ get_or levels at rules → map g xs ≡ map (λ i. distinct R (written_to f (map (λ (r : Bor (List Rule)). r.now) levels) i)) (numbers_from 0 (at + 1)) → old ≡ get_or xs at old → g x ≡ distinct R (g old ++ flat_map f rules.now) → new ≡ xs ++ x ∷ [] → map g new ≡ map (λ i. distinct R (written_to f (map (λ (r : Bor (List Rule)). r.now) levels) i)) (numbers_from 0 (at + 1 + 1))
level_step {R = R} law f g levels at xs new rules old x h is all was grows pushed =
    let L = map (λ (r : Bor (List Rule)). r.now) levels in
    let long = length-map levels (λ (r : Bor (List Rule)). r.now) in
    let before : g old ≡ distinct R (written_to f L at) =
    ap g was ∙ value_at g (λ i. distinct R (written_to f L i)) xs (at + 1) at old all (omega arith) in
    let here : get_or L at [] ≡ rules.now = get_or-map (λ (r : Bor (List Rule)). r.now) levels at rules [] h ∙ ap (λ (r : Bor (List Rule)). r.now) (sym is) in
    let next : g x ≡ distinct R (written_to f L (at + 1)) =
    grows ∙ (ap (λ l. distinct R (g old ++ flat_map f l)) (sym here) ∙ level_more law f L at [] (g old) (omega (arith, long, h)) before) in
    ap (map g) pushed ∙ value_more g (λ i. distinct R (written_to f L i)) xs (at + 1) x all next

-- what is written in some levels is written in more of them
pub written_grows : {A : Type 0} (f : Rule → List A) (levels : List (List Rule)) (i j : ℕ) → i ≤ j → (x : A) → IsIn x (written_to f levels i) → IsIn x (written_to f levels j)
written_grows f levels i j h x m =
    let k = take_grows levels i j h in
    let found = in_levels f (take i levels) x m in
    from_levels f (take j levels) x found.0 (k found.0 found.1) found.2
  where
    take_grows : (ls : List (List Rule)) (a b : ℕ) → a ≤ b → (l : List Rule) → IsIn l (take a ls) → IsIn l (take b ls)
    take_grows ls zero b g l n = absurd n
    take_grows [] (suc a) b g l n = absurd n
    take_grows (r ∷ ls) (suc a) zero g l n = absurd (omega arith)
    take_grows (r ∷ ls) (suc a) (suc b) g l (inl e) = inl e
    take_grows (r ∷ ls) (suc a) (suc b) g l (inr n) = inr (take_grows ls a b (omega arith) l n)

    in_levels : {A : Type 0} (f : Rule → List A) (ls : List (List Rule)) (x : A) → IsIn x (flat_map f (flat_map (λ rules. rules) ls)) → (l : List Rule) × IsIn l ls × IsIn x (flat_map f l)
    in_levels f [] x n = absurd n
    in_levels f (l ∷ ls) x n = elim (append_at (flat_map f l) (flat_map f (flat_map (λ (rules : List Rule). rules) ls)) x (subst (λ z. IsIn x z) (flat_map-append f l (flat_map (λ (rules : List Rule). rules) ls)) n)) [
      | inl m ↦ (l, inl refl, m)
      | inr m ↦ let found = in_levels f ls x m in (found.0, inr found.1, found.2)
    ]

    from_levels : {A : Type 0} (f : Rule → List A) (ls : List (List Rule)) (x : A) (l : List Rule) → IsIn l ls → IsIn x (flat_map f l) → IsIn x (flat_map f (flat_map (λ rules. rules) ls))
    from_levels f [] x l n m = absurd n
    from_levels f (k ∷ ls) x l (inl e) m =
        subst (λ z. IsIn x z) (sym (flat_map-append f k (flat_map (λ (rules : List Rule). rules) ls)))
        (append_left (flat_map f k) (flat_map f (flat_map (λ (rules : List Rule). rules) ls)) x (subst (λ r. IsIn x (flat_map f r)) e m))
    from_levels f (k ∷ ls) x l (inr n) m =
        subst (λ z. IsIn x z) (sym (flat_map-append f k (flat_map (λ (rules : List Rule). rules) ls)))
        (append_right (flat_map f k) (flat_map f (flat_map (λ (rules : List Rule). rules) ls)) x (from_levels f ls x l n m))
