-- Places that are written, their numbers, and the places of atoms that leave.
use Rattle.std.proofs.Common.{ℕ, zero, suc, ◌+◌, ◌<◌, ◌≤◌, ◌≡◌, ◌≢◌, refl, sym, ◌∙◌, ap, subst, inl, inr, Bool, true, false, not, ◌&&◌, ◌||◌, cond, eqb, List, [], ◌∷◌, ◌++◌, length, get_or, set, take, map, Option, Some, None, arith}
use Rattle.std.specs.Bool.{beq}
use Rattle.std.specs.List.{filter, slice_get}
use Rattle.std.proofs.lemmas.Bool.{cases_eq, cases_lt, eq-eqb, ne_eqb, or_left}
use Rattle.std.proofs.lemmas.List.{length-set, get_or-set_same, get_or-set_other, get_or_past, length-append, map-append, length-map, length-take, take_more}
use Rattle.std.proofs.lemmas.Option.{get_or_from_slice_get}
use Rattle.std.proofs.Math.ListN.{get_or-map}
use Rattle.asp_bits.specs.Places.{true_from, true_places}
use Rattle.asp_reduct.proofs.Truths.{holds-true_places, holds-read, get_or-member}
use Rattle.asp_defs.specs.Lists.{IsIn}
use Rattle.asp_defs.specs.Interpretations.{holds}
use Rattle.asp_minimal.specs.Choices.{bound_atoms}
use Rattle.asp_minimal.specs.Numbers.{written, has_value, numbers_from, number_at, AreNumbers, leaves, leaving_places}

-- ---- members

pub read_member : {A : Type 0} (xs : List A) (i : ℕ) (x : A) → i < length xs → x ≡ get_or xs i x → IsIn x xs
read_member {A} xs i x h e = subst (λ (y : A). IsIn y xs) (sym e) (get_or-member xs i x h)

-- whether a place is true in one interpretation and has a value in another, from what was read there
pub with-read : (values part : List Bool) (a : ℕ) (value x y : Bool) → slice_get values a ≡ Some x → slice_get part a ≡ Some y
    → (x && has_value value y) ≡ (holds (true_places values) a && has_value value (holds (true_places part) a))
with-read values part a value x y hx hy =
    ap (λ t. t && has_value value y) (sym (holds-read values a x hx))
    ∙ ap (λ t. holds (true_places values) a && has_value value t) (sym (holds-read part a y hy))

pub beq-value : (b value : Bool) → beq b value ≡ has_value value b
beq-value true true = refl
beq-value true false = refl
beq-value false true = refl
beq-value false false = refl

pub value_is : (value b : Bool) → has_value value b ≡ true → b ≡ value
value_is true b h = h
value_is false true h = absurd (cc)
value_is false false h = refl

-- ---- places that are written

pub length-written : (value : Bool) (values : List Bool) (places : List ℕ) → length (written value values places) ≡ length values
length-written value values [] = refl
length-written value values (p ∷ places) = length-written value (set values p value) places ∙ length-set values p value

-- one more place
pub written-more : (value : Bool) (values : List Bool) (places : List ℕ) (p : ℕ) → written value values (places ++ p ∷ []) ≡ set (written value values places) p value
written-more value values [] p = refl
written-more value values (q ∷ places) p = written-more value (set values q value) places p

-- a place that is one of them has the value, and the others what they had
pub written-at : (value : Bool) (values : List Bool) (places : List ℕ) (a : ℕ) → a < length values
    → get_or (written value values places) a false ≡ cond (holds places a) value (get_or values a false)
written-at value values [] a h = refl
written-at value values (p ∷ places) a h =
    let within : a < length (set values p value) = omega (arith, length-set values p value) in
    written-at value (set values p value) places a within
    ∙ elim (cases_eq p a) [
      | inl e ↦
          ap (λ t. cond (holds places a) value t) (ap (λ q. get_or (set values q value) a false) e ∙ get_or-set_same values a value false h)
          ∙ same (holds places a)
          ∙ sym (ap (λ t. cond t value (get_or values a false)) (or_left (eqb p a) (holds places a) (eq-eqb p a e)))
      | inr n ↦
          let other : a ≢ p = λ e. n (sym e) in
          ap (λ t. cond (holds places a) value t) (get_or-set_other values p a value false other)
          ∙ sym (ap (λ t. cond (t || holds places a) value (get_or values a false)) (ne_eqb p a n))
    ]
  where
    same : (b : Bool) → cond b value value ≡ value
    same true = refl
    same false = refl

-- ---- true places

-- one more place
pub true_from-more : (first : ℕ) (values : List Bool) (x : Bool) → true_from first (values ++ x ∷ []) ≡ true_from first values ++ cond x ((first + length values) ∷ []) []
true_from-more first [] true = ap (λ k. k ∷ []) (omega arith)
true_from-more first [] false = refl
true_from-more first (true ∷ values) x =
    ap (λ xs. first ∷ xs) (true_from-more (suc first) values x ∙ ap (λ k. true_from (suc first) values ++ cond x (k ∷ []) []) (omega arith))
true_from-more first (false ∷ values) x =
    true_from-more (suc first) values x ∙ ap (λ k. true_from (suc first) values ++ cond x (k ∷ []) []) (omega arith)

-- there are no more of them than places
pub length-true_from : (first : ℕ) (values : List Bool) → length (true_from first values) ≤ length values
length-true_from first [] = omega arith
length-true_from first (true ∷ values) = let h = length-true_from (suc first) values in omega arith
length-true_from first (false ∷ values) = let h = length-true_from (suc first) values in omega arith

-- the true places of values that pass a test are those that pass it
pub true_from-filter : (first : ℕ) (values kept : List Bool) (p : ℕ → Bool) → length kept ≡ length values
    → ((k : ℕ) → get_or kept k false ≡ get_or values k false && p (first + k))
    → true_from first kept ≡ filter p (true_from first values)
true_from-filter first [] [] p l h = refl
true_from-filter first [] (x ∷ kept) p l h = absurd (omega arith)
true_from-filter first (x ∷ values) [] p l h = absurd (omega arith)
true_from-filter first (false ∷ values) (x ∷ kept) p l h =
    subst (λ (b : Bool). true_from first (b ∷ kept) ≡ filter p (true_from (suc first) values)) (sym (h 0))
    (true_from-filter (suc first) values kept p (omega arith) (λ k. h (suc k) ∙ ap (λ n. get_or values k false && p n) (omega arith)))
true_from-filter first (true ∷ values) (x ∷ kept) p l h =
    let is : x ≡ p first = h 0 ∙ ap p (omega arith) in
    let more : true_from (suc first) kept ≡ filter p (true_from (suc first) values) =
    true_from-filter (suc first) values kept p (omega arith) (λ k. h (suc k) ∙ ap (λ n. get_or values k false && p n) (omega arith)) in
    subst (λ (b : Bool). true_from first (b ∷ kept) ≡ cond (p first) (first ∷ filter p (true_from (suc first) values)) (filter p (true_from (suc first) values))) (sym is)
    (both_cases (p first) more)
  where
    both_cases : (b : Bool) → true_from (suc first) kept ≡ filter p (true_from (suc first) values)
        → true_from first (b ∷ kept) ≡ cond b (first ∷ filter p (true_from (suc first) values)) (filter p (true_from (suc first) values))
    both_cases true e = ap (λ xs. first ∷ xs) e
    both_cases false e = e

-- ---- the bound atoms

-- an atom is bound where it is true and isn't free
pub bound-at : (values : List Bool) (free : List ℕ) (a : ℕ) → get_or (written false values free) a false ≡ get_or values a false && not (holds free a)
bound-at values free a = elim (cases_lt a (length values)) [
  | inl h ↦ written-at false values free a h ∙ swap (holds free a) (get_or values a false)
  | inr h ↦
      get_or_past (written false values free) a false (omega (arith, length-written false values free))
      ∙ ap (λ t. t && not (holds free a)) (sym (get_or_past values a false h))
]
  where
    swap : (f v : Bool) → cond f false v ≡ v && not f
    swap true true = refl
    swap true false = refl
    swap false true = refl
    swap false false = refl

pub bound-places : (values : List Bool) (free : List ℕ) → true_places (written false values free) ≡ bound_atoms free (true_places values)
bound-places values free =
    true_from-filter 0 values (written false values free) (λ a. not (holds free a)) (length-written false values free)
    (λ k. bound-at values free k ∙ ap (λ n. get_or values k false && not (holds free n)) (omega arith))

-- ---- numbers

pub length-numbers_from : (n : ℕ) (values : List Bool) → length (numbers_from n values) ≡ length values
length-numbers_from n [] = refl
length-numbers_from n (true ∷ values) = ap suc (length-numbers_from (suc n) values)
length-numbers_from n (false ∷ values) = ap suc (length-numbers_from n values)

-- one more place
pub numbers_from-more : (n first : ℕ) (values : List Bool) (x : Bool)
    → numbers_from n (values ++ x ∷ []) ≡ numbers_from n values ++ cond x (Some (n + length (true_from first values))) None ∷ []
numbers_from-more n first [] true = ap (λ k. Some k ∷ []) (omega arith)
numbers_from-more n first [] false = refl
numbers_from-more n first (true ∷ values) x =
    ap (λ xs. Some n ∷ xs) (numbers_from-more (suc n) (suc first) values x
    ∙ ap (λ k. numbers_from (suc n) values ++ cond x (Some k) None ∷ []) (omega arith))
numbers_from-more n first (false ∷ values) x = ap (λ xs. None ∷ xs) (numbers_from-more n (suc first) values x)

-- a number is that of the true place that stands so far behind the first
pub numbers_from-at : (first n : ℕ) (values : List Bool) (k m : ℕ) → number_at (numbers_from n values) k ≡ Some m
    → (j : ℕ) × (j < length (true_from first values)) × (m ≡ n + j) × (get_or (true_from first values) j 0 ≡ first + k)
numbers_from-at first n [] k m h = absurd (cc)
numbers_from-at first n (true ∷ values) zero m h = let e : n ≡ m = cc in (0, omega arith, omega arith, omega arith)
numbers_from-at first n (true ∷ values) (suc k) m h =
    let r = numbers_from-at (suc first) (suc n) values k m h in
    let is : get_or (true_from (suc first) values) r.0 0 ≡ first + suc k = r.3 ∙ omega arith
    in (suc r.0, omega (arith, r.1), omega (arith, r.2), is)
numbers_from-at first n (false ∷ values) zero m h = absurd (cc)
numbers_from-at first n (false ∷ values) (suc k) m h =
    let r = numbers_from-at (suc first) n values k m h in
    let is : get_or (true_from (suc first) values) r.0 0 ≡ first + suc k = r.3 ∙ omega arith
    in (r.0, r.1, r.2, is)

-- a true place has a number, and a false one has none
pub numbers_from-some : (n : ℕ) (values : List Bool) (k : ℕ) → get_or values k false ≡ true → (m : ℕ) × (number_at (numbers_from n values) k ≡ Some m)
numbers_from-some n [] k h = absurd (cc)
numbers_from-some n (true ∷ values) zero h = (n, refl)
numbers_from-some n (true ∷ values) (suc k) h = numbers_from-some (suc n) values k h
numbers_from-some n (false ∷ values) zero h = absurd (cc)
numbers_from-some n (false ∷ values) (suc k) h = numbers_from-some n values k h

pub numbers_from-none : (n : ℕ) (values : List Bool) (k : ℕ) → get_or values k false ≡ false → number_at (numbers_from n values) k ≡ None
numbers_from-none n [] k h = refl
numbers_from-none n (true ∷ values) zero h = absurd (cc)
numbers_from-none n (true ∷ values) (suc k) h = numbers_from-none (suc n) values k h
numbers_from-none n (false ∷ values) zero h = refl
numbers_from-none n (false ∷ values) (suc k) h = numbers_from-none n values k h

-- ---- what leaves

-- an atom is one of those that leave exactly where its number says so
pub holds-leaving : (v : ℕ → Bool) (numbers : List (Option ℕ)) (a : ℕ) → holds (leaving_places v numbers) a ≡ leaves v (number_at numbers a)
holds-leaving v numbers a = holds-true_places (map (leaves v) numbers) a ∙ get_or-map (leaves v) numbers a None

-- the numbers are below how many true places there are
pub AreNumbers-from : (values : List Bool) → AreNumbers (length (true_places values)) (numbers_from 0 values)
AreNumbers-from values a n h = let r = numbers_from-at 0 0 values a n h in omega (arith, r.1, r.2)

-- one more number
pub leaving-more : (v : ℕ → Bool) (numbers : List (Option ℕ)) (o : Option ℕ)
    → leaving_places v (numbers ++ o ∷ []) ≡ leaving_places v numbers ++ cond (leaves v o) (length numbers ∷ []) []
leaving-more v numbers o =
    ap true_places (map-append (leaves v) numbers (o ∷ []))
    ∙ true_from-more 0 (map (leaves v) numbers) (leaves v o)
    ∙ ap (λ k. leaving_places v numbers ++ cond (leaves v o) (k ∷ []) []) (omega (arith, length-map numbers (leaves v)))

-- the numbers are those of a search over as many atoms as are bound
pub numbers_fit : (values part : List Bool) (free : List ℕ) (numbers : List (Option ℕ)) (atoms : ℕ)
    → part ≡ written false values free → numbers ≡ numbers_from 0 part → atoms ≡ length (bound_atoms free (true_places values))
    → AreNumbers atoms numbers
numbers_fit values part free numbers atoms part_is numbers_are atoms_are =
    let count : atoms ≡ length (true_places part) = atoms_are ∙ ap length (sym (bound-places values free)) ∙ ap (λ p. length (true_places p)) (sym part_is) in
    subst (λ (n : ℕ). AreNumbers n numbers) (sym count)
    (subst (λ (ns : List (Option ℕ)). AreNumbers (length (true_places part)) ns) (sym numbers_are) (AreNumbers-from part))

-- one more place gets its number
pub numbers-step : (values : List Bool) (k : ℕ) (x : Bool) → k < length values → slice_get values k ≡ Some x
    → numbers_from 0 (take (k + 1) values) ≡ numbers_from 0 (take k values) ++ cond x (Some (length (true_places (take k values)))) None ∷ []
numbers-step values k x h read =
    let is : get_or values k false ≡ x = get_or_from_slice_get values k x false read in
    ap (numbers_from 0) (take_more values k false h ∙ ap (λ b. take k values ++ b ∷ []) is)
    ∙ numbers_from-more 0 0 (take k values) x
    ∙ ap (λ n. numbers_from 0 (take k values) ++ cond x (Some n) None ∷ []) (omega arith)

pub count-step : (values : List Bool) (k : ℕ) (x : Bool) → k < length values → slice_get values k ≡ Some x
    → length (true_places (take (k + 1) values)) ≡ length (true_places (take k values)) + cond x 1 0
count-step values k x h read =
    let is : get_or values k false ≡ x = get_or_from_slice_get values k x false read in
    ap (λ vs. length (true_places vs)) (take_more values k false h ∙ ap (λ b. take k values ++ b ∷ []) is)
    ∙ ap length (true_from-more 0 (take k values) x)
    ∙ length-append (true_places (take k values)) (cond x ((0 + length (take k values)) ∷ []) [])
    ∙ ap (λ n. length (true_places (take k values)) + n) (one x)
  where
    one : (b : Bool) → length (cond b ((0 + length (take k values)) ∷ []) []) ≡ cond b 1 0
    one true = refl
    one false = refl

pub count-within : (values : List Bool) (k : ℕ) → length (true_places (take k values)) ≤ k
count-within values k = omega (arith, length-true_from 0 (take k values), length-take k values)

-- one more atom leaves or doesn't
pub leaving-step : (v : ℕ → Bool) (numbers : List (Option ℕ)) (k : ℕ) → k < length numbers
    → leaving_places v (take (k + 1) numbers) ≡ leaving_places v (take k numbers) ++ cond (leaves v (number_at numbers k)) (k ∷ []) []
leaving-step v numbers k h =
    ap (leaving_places v) (take_more numbers k None h)
    ∙ leaving-more v (take k numbers) (number_at numbers k)
    ∙ ap (λ n. leaving_places v (take k numbers) ++ cond (leaves v (number_at numbers k)) (n ∷ []) []) (omega (arith, length-take k numbers))

-- what a loop adds for one more place
pub numbers_after : (values : List Bool) (k : ℕ) (x : Bool) (items : List (Option ℕ)) (next : ℕ) → k < length values → slice_get values k ≡ Some x
    → items ≡ numbers_from 0 (take k values) → next ≡ length (true_places (take k values))
    → items ++ cond x (Some next) None ∷ [] ≡ numbers_from 0 (take (k + 1) values)
numbers_after values k x items next h read items_are next_is =
    ap (λ ns. ns ++ cond x (Some next) None ∷ []) items_are
    ∙ ap (λ n. numbers_from 0 (take k values) ++ cond x (Some n) None ∷ []) next_is
    ∙ sym (numbers-step values k x h read)

-- and for one more atom
pub leaving_after : (v : ℕ → Bool) (numbers : List (Option ℕ)) (k : ℕ) (items : List ℕ) (b : Bool) → k < length numbers
    → items ≡ leaving_places v (take k numbers) → b ≡ leaves v (number_at numbers k)
    → items ++ cond b (k ∷ []) [] ≡ leaving_places v (take (k + 1) numbers)
leaving_after v numbers k items b h items_are is =
    ap (λ xs. xs ++ cond b (k ∷ []) []) items_are
    ∙ ap (λ t. leaving_places v (take k numbers) ++ cond t (k ∷ []) []) is
    ∙ sym (leaving-step v numbers k h)
