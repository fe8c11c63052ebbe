-- Rows in one list of words.
use Rattle.std.proofs.Common.{◌≡◌, ◌≢◌, ℕ, zero, suc, ◌+◌, ◌-◌, ◌^◌, ◌<◌, ◌≤◌, List, [], ◌∷◌, ◌++◌, length, get_or, take, drop, set, refl, sym, ◌∙◌, ap, arith, inl, inr, subst, length-drop, length-set}
use Rattle.std.specs.List.{swap}
use Rattle.std.proofs.lemmas.List.{length-take-le, get_or-take, get_or-drop, drop-set-add, drop-set-lt, take-set-le, same_lists, get_or-set_same, get_or-set_other, take-append-le, drop-append-le, get_or_append_left, get_or_push, length_push, take_all, take-take, drop-take, drop-drop, drop_at, get_or_read, get_or_default, set-set}
use Rattle.std.proofs.lemmas.List.FromFn.{length-map-range_with_len, get_or-map-range_with_len}
use Rattle.std.proofs.lemmas.Bool.{cases_lt, cases_eq}
use Rattle.asp_clauses.specs.Rows.{rows_of, row_of, AreRows}

pub length-rows_of : (words starts : List ℕ) → length (rows_of words starts) ≡ length starts - 1
unfolding rows_of
length-rows_of words starts = length-map-range_with_len (row_of words starts) 0 (length starts - 1)

pub get_or-rows_of : (words starts : List ℕ) (k : ℕ) (d : List ℕ) → k < length starts - 1 → get_or (rows_of words starts) k d ≡ row_of words starts k
unfolding rows_of
get_or-rows_of words starts k d h = get_or-map-range_with_len (row_of words starts) 0 (length starts - 1) k k d h (omega arith)

-- where a row lies
pub row_ends : (words starts : List ℕ) → AreRows words starts → (k : ℕ) → k < length starts - 1 → (get_or starts k 0 ≤ get_or starts (k + 1) 0) × (get_or starts (k + 1) 0 ≤ length words)
row_ends words starts r k h = (
  r.ordered k (k + 1) (omega arith) (omega arith),
  let a = r.ordered (k + 1) (length starts - 1) (omega arith) (omega arith) in omega (arith, a, r.last),
)

pub length-row_of : (words starts : List ℕ) → AreRows words starts → (k : ℕ) → k < length starts - 1 → get_or starts k 0 + length (row_of words starts k) ≡ get_or starts (k + 1) 0
length-row_of words starts r k h =
    let e = row_ends words starts r k h in
    let l = length-drop (get_or starts k 0) words in
    let t = length-take-le (get_or starts (k + 1) 0 - get_or starts k 0) (drop (get_or starts k 0) words) (omega (arith, e.0, e.1, l)) in
    omega (arith, t, e.0)

pub get_or-row_of : (words starts : List ℕ) → AreRows words starts → (k j d : ℕ) → k < length starts - 1 → j < length (row_of words starts k) → get_or (row_of words starts k) j d ≡ get_or words (get_or starts k 0 + j) d
get_or-row_of words starts r k j d h i =
    let e = length-row_of words starts r k h in
    get_or-take (get_or starts (k + 1) 0 - get_or starts k 0) (drop (get_or starts k 0) words) j d (omega (arith, e)) ∙ get_or-drop (get_or starts k 0) words j d

take-set_within : (n : ℕ) (xs : List ℕ) (j v : ℕ) → j < n → take n (set xs j v) ≡ set (take n xs) j v
take-set_within zero xs j v h = absurd (omega arith)
take-set_within (suc n) [] j v h = refl
take-set_within (suc n) (x ∷ xs) zero v h = refl
take-set_within (suc n) (x ∷ xs) (suc j) v h = ap (λ (l : List ℕ). x ∷ l) (take-set_within n xs j v (omega arith))

-- a write past an offset is a write to what lies from there on
set_from : (n j v : ℕ) (xs : List ℕ) → n ≤ j → drop n (set xs j v) ≡ set (drop n xs) (j - n) v
set_from n j v xs h = let e : j ≡ n + (j - n) = omega arith in subst (λ (i : ℕ). drop n (set xs i v) ≡ set (drop n xs) (j - n) v) (sym e) (drop-set-add n xs (j - n) v)

pub row_of-set : (words starts : List ℕ) → AreRows words starts → (k j v i : ℕ) → k < length starts - 1 → j < length (row_of words starts k) → i < length starts - 1 → i ≢ k → row_of (set words (get_or starts k 0 + j) v) starts i ≡ row_of words starts i
row_of-set words starts r k j v i hk hj hi ne =
    let e = length-row_of words starts r k hk in
    elim (cases_lt i k) [
      | inl lt ↦
          let o = r.ordered (i + 1) k (omega arith) (omega arith) in
          let b = row_ends words starts r i hi in
          ap (take (get_or starts (i + 1) 0 - get_or starts i 0)) (set_from (get_or starts i 0) (get_or starts k 0 + j) v words (omega (arith, o, b.0)))
          ∙ take-set-le (get_or starts (i + 1) 0 - get_or starts i 0) (drop (get_or starts i 0) words) (get_or starts k 0 + j - get_or starts i 0) v (omega (arith, o, b.0))
      | inr ge ↦
          let o = r.ordered (k + 1) i (omega arith) (omega arith) in
          ap (take (get_or starts (i + 1) 0 - get_or starts i 0)) (drop-set-lt (get_or starts i 0) words (get_or starts k 0 + j) v (omega (arith, o, e)))
    ]

pub row_of-set_same : (words starts : List ℕ) → AreRows words starts → (k j v : ℕ) → k < length starts - 1 → j < length (row_of words starts k) → row_of (set words (get_or starts k 0 + j) v) starts k ≡ set (row_of words starts k) j v
row_of-set_same words starts r k j v hk hj =
    let e = length-row_of words starts r k hk in
    let n = get_or starts (k + 1) 0 - get_or starts k 0 in
    ap (take n) (drop-set-add (get_or starts k 0) words j v) ∙ take-set_within n (drop (get_or starts k 0) words) j v (omega (arith, e))

pub rows_of-set : (words starts : List ℕ) → AreRows words starts → (k j v : ℕ) → k < length starts - 1 → j < length (row_of words starts k) → rows_of (set words (get_or starts k 0 + j) v) starts ≡ set (rows_of words starts) k (set (row_of words starts k) j v)
rows_of-set words starts r k j v hk hj =
    let old = rows_of words starts in
    let new = rows_of (set words (get_or starts k 0 + j) v) starts in
    let len_old = length-rows_of words starts in
    let len_new = length-rows_of (set words (get_or starts k 0 + j) v) starts in
    let len_set = length-set old k (set (row_of words starts k) j v) in
    let same : length new ≡ length (set old k (set (row_of words starts k) j v)) = omega (arith, len_old, len_new, len_set) in
    same_lists new (set old k (set (row_of words starts k) j v)) same (λ i d hi.
    let hi' : i < length starts - 1 = omega (arith, len_new, hi) in
    elim (cases_eq i k) [
      | inl eq ↦ subst (λ (x : ℕ). get_or new x d ≡ get_or (set old k (set (row_of words starts k) j v)) x d) (sym eq)
          (get_or-rows_of (set words (get_or starts k 0 + j) v) starts k d hk ∙ row_of-set_same words starts r k j v hk hj
          ∙ sym (get_or-set_same old k (set (row_of words starts k) j v) d (omega (arith, len_old))))
      | inr ne ↦ get_or-rows_of (set words (get_or starts k 0 + j) v) starts i d hi' ∙ row_of-set words starts r k j v i hk hj hi' ne
          ∙ sym (get_or-rows_of words starts i d hi') ∙ sym (get_or-set_other old k i (set (row_of words starts k) j v) d ne)
    ])

-- one more row
pub rows_of-push : (words starts row : List ℕ) → AreRows words starts → rows_of (words ++ row) (starts ++ (length words + length row) ∷ []) ≡ rows_of words starts ++ row ∷ []
rows_of-push words starts row r =
    let end = length words + length row in
    let starts' = starts ++ end ∷ [] in
    let words' = words ++ row in
    let n = length starts - 1 in
    let some = r.some in
    let len = length_push starts end in
    let len_old = length-rows_of words starts in
    let len_new = length-rows_of words' starts' in
    let len_push = length_push (rows_of words starts) row in
    let same : length (rows_of words' starts') ≡ length (rows_of words starts ++ row ∷ []) = omega (arith, len, len_old, len_new, len_push, some) in
    same_lists (rows_of words' starts') (rows_of words starts ++ row ∷ []) same (λ i d hi.
    let hi' : i < length starts' - 1 = omega (arith, len_new, hi) in
    let before : get_or starts' i 0 ≡ get_or starts i 0 = get_or_append_left starts (end ∷ []) 0 i (omega (arith, len, hi', some)) in
    elim (cases_lt i n) [
      | inl lt ↦
          let after : get_or starts' (i + 1) 0 ≡ get_or starts (i + 1) 0 = get_or_append_left starts (end ∷ []) 0 (i + 1) (omega (arith, some)) in
          let b = row_ends words starts r i lt in
          let a = get_or starts i 0 in
          let m = get_or starts (i + 1) 0 - a in
          let ld = length-drop a words in
          get_or-rows_of words' starts' i d hi'
          ∙ ap (λ (x : ℕ). take (get_or starts' (i + 1) 0 - x) (drop x words')) before
          ∙ ap (λ (x : ℕ). take (x - a) (drop a words')) after
          ∙ ap (take m) (drop-append-le a words row (omega (arith, b.0, b.1)))
          ∙ take-append-le m (drop a words) row (omega (arith, b.0, b.1, ld))
          ∙ sym (get_or-rows_of words starts i d lt)
          ∙ sym (get_or_append_left (rows_of words starts) (row ∷ []) d i (omega (arith, len_old)))
      | inr ge ↦
          let is : i ≡ n = omega (arith, len, hi', some) in
          let after : get_or starts' (i + 1) 0 ≡ end = get_or_push starts end 0 (i + 1) (omega (arith, some)) in
          let start : get_or starts' i 0 ≡ length words = before ∙ ap (λ (x : ℕ). get_or starts x 0) is ∙ r.last in
          get_or-rows_of words' starts' i d hi'
          ∙ ap (λ (x : ℕ). take (get_or starts' (i + 1) 0 - x) (drop x words')) start
          ∙ ap (λ (x : ℕ). take (x - length words) (drop (length words) words')) after
          ∙ ap (take (end - length words)) (drop_at words row (length words) refl)
          ∙ take_all (end - length words) row (omega arith)
          ∙ sym (get_or_push (rows_of words starts) row d i (omega (arith, len_old)))
    ])

-- what is known of a row, by the list of rows that words and starts stand for
pub record RowFacts (words starts : List ℕ) (rows : List (List ℕ)) (k : ℕ) : Type 0 where
  pub numbered : k + 1 < length starts
  pub before_last : k < length starts - 1
  pub is : get_or rows k [] ≡ row_of words starts k
  pub size : length (get_or rows k []) ≡ length (row_of words starts k)
  pub within : get_or starts k 0 + length (get_or rows k []) ≤ length words
  pub small : length words < 2 ^ 32

pub row_facts : (words starts : List ℕ) (rows : List (List ℕ)) → AreRows words starts → rows_of words starts ≡ rows → (k : ℕ) → k < length rows → RowFacts words starts rows k
row_facts words starts rows r e k h =
    let len : length rows ≡ length starts - 1 = sym (ap length e) ∙ length-rows_of words starts in
    let lt : k < length starts - 1 = omega arith in
    let same : get_or rows k [] ≡ row_of words starts k = sym (ap (λ (x : List (List ℕ)). get_or x k []) e) ∙ get_or-rows_of words starts k [] lt in
    let size = ap length same in
    let at = length-row_of words starts r k lt in
    let ends = row_ends words starts r k lt in
    record { numbered = omega arith; before_last = lt; is = same; size = size; within = omega (arith, size, at, ends.1); small = r.small }

-- a read of a start, and of a word of the row from there on
pub start_read : (words starts : List ℕ) (rows : List (List ℕ)) (k s : ℕ) → RowFacts words starts rows k → s ≡ get_or starts k s → s ≡ get_or starts k 0
start_read words starts rows k s f e = get_or_read starts k s (omega (arith, f.numbered)) e 0

pub word_within : (words starts : List ℕ) (rows : List (List ℕ)) (k s j : ℕ) → RowFacts words starts rows k → s ≡ get_or starts k s → j < length (get_or rows k []) → (s + j < length words) × (s + j < 2 ^ 64)
word_within words starts rows k s j f e h = let r = start_read words starts rows k s f e in (omega (arith, r, f.within), omega (arith, r, f.within, f.small))

pub word_read : (words starts : List ℕ) (rows : List (List ℕ)) → AreRows words starts → (k s j x : ℕ) → RowFacts words starts rows k → s ≡ get_or starts k s → j < length (get_or rows k []) → x ≡ get_or words (s + j) x → x ≡ get_or (get_or rows k []) j 0
word_read words starts rows r k s j x f e h g =
    get_or_read words (s + j) x (word_within words starts rows k s j f e h).0 g 0
    ∙ ap (λ (y : ℕ). get_or words (y + j) 0) (start_read words starts rows k s f e)
    ∙ sym (get_or-row_of words starts r k j 0 f.before_last (omega (arith, f.size)))
    ∙ sym (ap (λ (y : List ℕ). get_or y j 0) f.is)

-- a write to a word of the row
pub word_written : (words starts : List ℕ) (rows : List (List ℕ)) → AreRows words starts → rows_of words starts ≡ rows → (k s j v : ℕ) → RowFacts words starts rows k → s ≡ get_or starts k s → j < length (get_or rows k []) → rows_of (set words (s + j) v) starts ≡ set rows k (set (get_or rows k []) j v)
word_written words starts rows r e k s j v f g h =
    ap (λ (y : ℕ). rows_of (set words (y + j) v) starts) (start_read words starts rows k s f g)
    ∙ rows_of-set words starts r k j v f.before_last (omega (arith, f.size))
    ∙ ap (λ (y : List (List ℕ)). set y k (set (row_of words starts k) j v)) e
    ∙ ap (λ (y : List ℕ). set rows k (set y j v)) (sym f.is)

-- a part of the row
pub part_read : (words starts : List ℕ) (rows : List (List ℕ)) → AreRows words starts → (k s j n : ℕ) → RowFacts words starts rows k → s ≡ get_or starts k s → j + n ≤ length (get_or rows k []) → take n (drop (s + j) words) ≡ take n (drop j (get_or rows k []))
part_read words starts rows r k s j n f g h =
    let m = get_or starts (k + 1) 0 - get_or starts k 0 in
    let len = length-row_of words starts r k f.before_last in
    let e : n + (m - j - n) ≡ m - j = omega (arith, len, f.size) in
    let j_le : j + (m - j) ≡ m = omega (arith, len, f.size) in
    ap (λ (y : ℕ). take n (drop (y + j) words)) (start_read words starts rows k s f g)
    ∙ ap (take n) (sym (drop-drop j (get_or starts k 0) words))
    ∙ sym (take-take n (m - j) (drop j (drop (get_or starts k 0) words)) (omega (arith, e)))
    ∙ ap (take n) (sym (drop-take j (m - j) (drop (get_or starts k 0) words)))
    ∙ ap (λ (y : ℕ). take n (drop j (take y (drop (get_or starts k 0) words)))) j_le
    ∙ sym (ap (λ (y : List ℕ). take n (drop j y)) f.is)

-- a read of the row's first word
pub first_read : (words starts : List ℕ) (rows : List (List ℕ)) → AreRows words starts → (k s x : ℕ) → RowFacts words starts rows k → s ≡ get_or starts k s → 0 < length (get_or rows k []) → x ≡ get_or words s x → x ≡ get_or (get_or rows k []) 0 0
first_read words starts rows r k s x f e h g =
    let zero_more : s ≡ s + 0 = omega arith in
    word_read words starts rows r k s 0 x f e h (g ∙ ap (λ (y : ℕ). get_or words y x) zero_more)

-- an exchange as two writes
pub swap_sets : (xs : List ℕ) (i j : ℕ) → i < length xs → j < length xs → swap xs i j ≡ set (set xs i (get_or xs j 0)) j (get_or xs i 0)
swap_sets [] i j h g = refl
swap_sets (x ∷ xs) i j h g =
    ap (λ (y : ℕ). set (set (x ∷ xs) i y) j (get_or (x ∷ xs) i x)) (get_or_default (x ∷ xs) j x 0 g)
    ∙ ap (λ (y : ℕ). set (set (x ∷ xs) i (get_or (x ∷ xs) j 0)) j y) (get_or_default (x ∷ xs) i x 0 h)

-- two writes to one row
pub row_twice : (rows : List (List ℕ)) (k i j a b : ℕ) → k < length rows → set (set rows k (set (get_or rows k []) i a)) k (set (get_or (set rows k (set (get_or rows k []) i a)) k []) j b) ≡ set rows k (set (set (get_or rows k []) i a) j b)
row_twice rows k i j a b h =
    set-set rows k (set (get_or rows k []) i a) (set (get_or (set rows k (set (get_or rows k []) i a)) k []) j b)
    ∙ ap (λ (y : List ℕ). set rows k (set y j b)) (get_or-set_same rows k (set (get_or rows k []) i a) [] h)

-- the exchange as the two writes that a body makes
pub row_swapped : (rows after last : List (List ℕ)) (k i j a b : ℕ) → k < length rows → i < length (get_or rows k []) → j < length (get_or rows k []) → a ≡ get_or (get_or rows k []) i 0 → b ≡ get_or (get_or rows k []) j 0 → after ≡ set rows k (set (get_or rows k []) i b) → last ≡ set after k (set (get_or after k []) j a) → last ≡ set rows k (swap (get_or rows k []) i j)
row_swapped rows after last k i j a b h hi hj ea eb one two =
    two
    ∙ ap (λ (x : List (List ℕ)). set x k (set (get_or x k []) j a)) one
    ∙ row_twice rows k i j b a h
    ∙ ap (λ (x : ℕ). set rows k (set (set (get_or rows k []) i x) j a)) eb
    ∙ ap (λ (x : ℕ). set rows k (set (set (get_or rows k []) i (get_or (get_or rows k []) j 0)) j x)) ea
    ∙ sym (ap (λ (x : List ℕ). set rows k x) (swap_sets (get_or rows k []) i j hi hj))
