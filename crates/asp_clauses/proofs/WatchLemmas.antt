-- Rows of clauses whose links or literals change.
use Rattle.std.proofs.Common.{◌≡◌, ◌≢◌, ℕ, ◌+◌, ◌*◌, ◌/◌, ◌<◌, ◌≤◌, ◌⊎◌, cond, eqb, List, [], length, get_or, set, take, drop, max, sym, ◌∙◌, ap, arith, inl, inr, subst, length-set, length-drop}
use Rattle.std.specs.List.{swap}
use Rattle.std.proofs.lemmas.Bool.{cases_lt, cases_eq}
use Rattle.std.proofs.lemmas.Bool.Decides.{nat_tests}
use Rattle.std.proofs.lemmas.List.{get_or-set_same, get_or-set_other, get_or-take, get_or-drop, length-take-le, drop-set-lt, same_lists, get_or_default}
use Rattle.asp_clauses.specs.Records.{row_at, literals_of}
use Rattle.asp_clauses.specs.Book.{IsClause}
use Rattle.asp_clauses.specs.Watches.{IsRecord, side_of}
use Rattle.asp_clauses.proofs.RowsLemmas.{swap_sets}

-- ---- an exchange, place by place
pub length-swap : (xs : List ℕ) (i j : ℕ) → i < length xs → j < length xs → length (swap xs i j) ≡ length xs
length-swap xs i j h g = ap length (swap_sets xs i j h g) ∙ length-set (set xs i (get_or xs j 0)) j (get_or xs i 0) ∙ length-set xs i (get_or xs j 0)

pub swap_second : (xs : List ℕ) (i j : ℕ) → i < length xs → j < length xs → get_or (swap xs i j) j 0 ≡ get_or xs i 0
swap_second xs i j h g =
    ap (λ (ys : List ℕ). get_or ys j 0) (swap_sets xs i j h g) ∙ get_or-set_same (set xs i (get_or xs j 0)) j (get_or xs i 0) 0 (let l = length-set xs i (get_or xs j 0) in omega (arith, l))

pub swap_first : (xs : List ℕ) (i j : ℕ) → i < length xs → j < length xs → get_or (swap xs i j) i 0 ≡ get_or xs j 0
swap_first xs i j h g = elim (cases_eq i j) [
  | inl e ↦ ap (λ (n : ℕ). get_or (swap xs i j) n 0) e ∙ swap_second xs i j h g ∙ ap (λ (n : ℕ). get_or xs n 0) e
  | inr ne ↦ ap (λ (ys : List ℕ). get_or ys i 0) (swap_sets xs i j h g) ∙ get_or-set_other (set xs i (get_or xs j 0)) j i (get_or xs i 0) 0 ne ∙ get_or-set_same xs i (get_or xs j 0) 0 h
]

pub swap_other : (xs : List ℕ) (i j a : ℕ) → i < length xs → j < length xs → a ≢ i → a ≢ j → get_or (swap xs i j) a 0 ≡ get_or xs a 0
swap_other xs i j a h g ni nj =
    ap (λ (ys : List ℕ). get_or ys a 0) (swap_sets xs i j h g) ∙ get_or-set_other (set xs i (get_or xs j 0)) j a (get_or xs i 0) 0 nj ∙ get_or-set_other xs i a (get_or xs j 0) 0 ni

-- each place of an exchange has what one place had, and different places had different ones
pub swap_from : (xs : List ℕ) (i j a : ℕ) → i < length xs → j < length xs → a < length xs → (b : ℕ) × (b < length xs) × (get_or (swap xs i j) a 0 ≡ get_or xs b 0)
swap_from xs i j a h g l = elim (cases_eq a i) [
  | inl e ↦ (j, g, ap (λ (n : ℕ). get_or (swap xs i j) n 0) e ∙ swap_first xs i j h g)
  | inr ni ↦ elim (cases_eq a j) [
    | inl e ↦ (i, h, ap (λ (n : ℕ). get_or (swap xs i j) n 0) e ∙ swap_second xs i j h g)
    | inr nj ↦ (a, l, swap_other xs i j a h g ni nj)
  ]
]

differs : (xs : List ℕ) (a b : ℕ) → ((i j : ℕ) → i < j → j < length xs → get_or xs i 0 / 2 ≢ get_or xs j 0 / 2) → a < length xs → b < length xs → a ≢ b → get_or xs a 0 / 2 ≢ get_or xs b 0 / 2
differs xs a b d la lb ne = elim (cases_lt a b) [ inl lt ↦ d a b lt lb | inr ge ↦ λ e. d b a (omega (arith, ge, ne)) la (sym e) ]

pub IsClause-swap : (atoms : ℕ) (xs : List ℕ) (i j : ℕ) → i < length xs → j < length xs → IsClause atoms xs → IsClause atoms (swap xs i j)
IsClause-swap atoms xs i j h g c =
    let len = length-swap xs i j h g in
    record {
      in_range = λ a l. let f = swap_from xs i j a h g (omega (arith, len, l)) in subst (λ (x : ℕ). x < 2 * atoms) (sym f.2) (c.in_range f.0 f.1);
      distinct = λ a b ab l e. swapped_differ xs i j h g c.distinct a b (omega (arith, len, l, ab)) (omega (arith, len, l)) (omega (arith, ab)) e;
    }
  where
    swapped_differ : (xs : List ℕ) (i j : ℕ) → i < length xs → j < length xs → ((x y : ℕ) → x < y → y < length xs → get_or xs x 0 / 2 ≢ get_or xs y 0 / 2) → (a b : ℕ) → a < length xs → b < length xs → a ≢ b → get_or (swap xs i j) a 0 / 2 ≢ get_or (swap xs i j) b 0 / 2
    swapped_differ xs i j h g d a b la lb ne e =
        let p : ℕ → ℕ = λ n. get_or (swap xs i j) n 0 in
        elim (cases_eq a i) [
          | inl ai ↦ let va : p a ≡ get_or xs j 0 = ap p ai ∙ swap_first xs i j h g in elim (cases_eq b j) [
            | inl bj ↦ let vb : p b ≡ get_or xs i 0 = ap p bj ∙ swap_second xs i j h g in differs xs j i d g h (λ x. ne (ai ∙ sym x ∙ sym bj)) (sym (ap (λ (n : ℕ). n / 2) va) ∙ e ∙ ap (λ (n : ℕ). n / 2) vb)
            | inr nbj ↦ let vb : p b ≡ get_or xs b 0 = swap_other xs i j b h g (λ x. ne (ai ∙ sym x)) nbj in differs xs j b d g lb (λ x. nbj (sym x)) (sym (ap (λ (n : ℕ). n / 2) va) ∙ e ∙ ap (λ (n : ℕ). n / 2) vb)
          ]
          | inr nai ↦ elim (cases_eq a j) [
            | inl aj ↦ let va : p a ≡ get_or xs i 0 = ap p aj ∙ swap_second xs i j h g in elim (cases_eq b i) [
              | inl bi ↦ let vb : p b ≡ get_or xs j 0 = ap p bi ∙ swap_first xs i j h g in differs xs i j d h g (λ x. ne (aj ∙ sym x ∙ sym bi)) (sym (ap (λ (n : ℕ). n / 2) va) ∙ e ∙ ap (λ (n : ℕ). n / 2) vb)
              | inr nbi ↦ let vb : p b ≡ get_or xs b 0 = swap_other xs i j b h g nbi (λ x. ne (aj ∙ sym x)) in differs xs i b d h lb (λ x. nbi (sym x)) (sym (ap (λ (n : ℕ). n / 2) va) ∙ e ∙ ap (λ (n : ℕ). n / 2) vb)
            ]
            | inr naj ↦ let va : p a ≡ get_or xs a 0 = swap_other xs i j a h g nai naj in elim (cases_eq b i) [
              | inl bi ↦ let vb : p b ≡ get_or xs j 0 = ap p bi ∙ swap_first xs i j h g in differs xs a j d la g naj (sym (ap (λ (n : ℕ). n / 2) va) ∙ e ∙ ap (λ (n : ℕ). n / 2) vb)
              | inr nbi ↦ elim (cases_eq b j) [
                | inl bj ↦ let vb : p b ≡ get_or xs i 0 = ap p bj ∙ swap_second xs i j h g in differs xs a i d la h nai (sym (ap (λ (n : ℕ). n / 2) va) ∙ e ∙ ap (λ (n : ℕ). n / 2) vb)
                | inr nbj ↦ let vb : p b ≡ get_or xs b 0 = swap_other xs i j b h g nbi nbj in differs xs a b d la lb ne (sym (ap (λ (n : ℕ). n / 2) va) ∙ e ∙ ap (λ (n : ℕ). n / 2) vb)
              ]
            ]
          ]
        ]

-- ---- a row and its clause
pub row_size : (atoms : ℕ) (row : List ℕ) → IsRecord atoms row → (5 ≤ length row) × (3 + get_or row 0 0 ≤ length row)
row_size atoms row r = let s = r.size in (omega arith, omega arith)

pub length_literals : (atoms : ℕ) (row : List ℕ) → IsRecord atoms row → length (literals_of row) ≡ get_or row 0 0
length_literals atoms row r = let s = row_size atoms row r in length-take-le (get_or row 0 0) (drop 3 row) (let l = length-drop 3 row in omega (arith, l, s.1))

pub literal_in_row : (row : List ℕ) (i : ℕ) → i < get_or row 0 0 → get_or (literals_of row) i 0 ≡ get_or row (3 + i) 0
literal_in_row row i h = get_or-take (get_or row 0 0) (drop 3 row) i 0 h ∙ get_or-drop 3 row i 0

pub cell_in_range : (atoms : ℕ) (row : List ℕ) (i : ℕ) → IsRecord atoms row → i < get_or row 0 0 → get_or row (3 + i) 0 < 2 * atoms
cell_in_range atoms row i r h = let l = length_literals atoms row r in subst (λ (x : ℕ). x < 2 * atoms) (literal_in_row row i h) (r.clause.in_range i (omega (arith, l)))

-- a watch is a literal of the clause or the origin
pub watch_code : (atoms : ℕ) (row : List ℕ) (side : ℕ) → IsRecord atoms row → side < 2 → get_or row (3 + side) 0 ≤ 2 * atoms
watch_code atoms row side r h = elim (cases_lt side (get_or row 0 0)) [
  | inl lt ↦ let c = cell_in_range atoms row side r lt in omega (arith, c)
  | inr ge ↦ elim (cases_eq side 0) [
    | inl z ↦ let n = r.none (omega (arith, z, ge)) in let e = ap (λ (x : ℕ). get_or row (3 + x) 0) z in omega (arith, n, e)
    | inr nz ↦ let one_is : side ≡ 1 = omega (arith, h, nz) in let n = r.one (omega (arith, one_is, ge)) in let e = ap (λ (x : ℕ). get_or row (3 + x) 0) one_is in omega (arith, n, e)
  ]
]

-- the two watches differ
pub watches_differ : (atoms : ℕ) (row : List ℕ) → IsRecord atoms row → 0 < get_or row 0 0 → get_or row 3 0 ≢ get_or row 4 0
watches_differ atoms row r h e = elim (cases_lt 1 (get_or row 0 0)) [
  | inl two ↦
      let l = length_literals atoms row r in
      r.clause.distinct 0 1 (omega arith) (omega (arith, l, two)) (ap (λ (x : ℕ). x / 2) (literal_in_row row 0 h ∙ e ∙ sym (literal_in_row row 1 two)))
  | inr one ↦ let c = cell_in_range atoms row 0 r h in let n = r.one (omega arith) in omega (arith, c, n, e)
]

-- ---- which of the two watches
pub side_first : (row : List ℕ) (literal : ℕ) → get_or row 3 0 ≡ literal → side_of row literal ≡ 0
side_first row literal e = grind (arith, nat_tests)

pub side_second : (row : List ℕ) (literal : ℕ) → get_or row 3 0 ≢ literal → side_of row literal ≡ 1
side_second row literal e = grind (arith, nat_tests)

pub side_cases : (row : List ℕ) (literal : ℕ) → ((get_or row 3 0 ≡ literal) × (side_of row literal ≡ 0)) ⊎ ((get_or row 3 0 ≢ literal) × (side_of row literal ≡ 1))
side_cases row literal = elim (cases_eq (get_or row 3 0) literal) [ inl e ↦ inl (e, side_first row literal e) | inr n ↦ inr (n, side_second row literal n) ]

pub side-lt : (row : List ℕ) (literal : ℕ) → side_of row literal < 2
side-lt row literal = elim (side_cases row literal) [ inl a ↦ let e = a.1 in omega (arith, e) | inr b ↦ let e = b.1 in omega (arith, e) ]

-- the watch on its side is the literal
pub at_side : (row : List ℕ) (literal : ℕ) → (get_or row 3 0 ≡ literal) ⊎ (get_or row 4 0 ≡ literal) → get_or row (3 + side_of row literal) 0 ≡ literal
at_side row literal w = elim (side_cases row literal) [
  | inl a ↦ ap (λ (n : ℕ). get_or row (3 + n) 0) a.1 ∙ a.0
  | inr b ↦ ap (λ (n : ℕ). get_or row (3 + n) 0) b.1 ∙ elim w [ inl x ↦ absurd (b.0 x) | inr y ↦ y ]
]

-- two literals that a clause watches are on different sides
pub sides_differ : (row : List ℕ) (literal other : ℕ) → (get_or row 3 0 ≡ literal) ⊎ (get_or row 4 0 ≡ literal) → (get_or row 3 0 ≡ other) ⊎ (get_or row 4 0 ≡ other) → literal ≢ other → side_of row literal ≢ side_of row other
sides_differ row literal other w v ne e = ne (sym (at_side row literal w) ∙ ap (λ (n : ℕ). get_or row (3 + n) 0) e ∙ at_side row other v)

-- sides depend on the first watch alone
pub side_of-same : (row row' : List ℕ) (literal : ℕ) → get_or row' 3 0 ≡ get_or row 3 0 → side_of row' literal ≡ side_of row literal
side_of-same row row' literal e = ap (λ (x : ℕ). cond (eqb x literal) 0 1) e

-- ---- a link that changes
pub literals_of-link : (row : List ℕ) (i v : ℕ) → 0 < i → i < 3 → literals_of (set row i v) ≡ literals_of row
literals_of-link row i v z h =
    let ne : 0 ≢ i = omega arith in
    ap (λ (n : ℕ). take n (drop 3 (set row i v))) (get_or-set_other row i 0 v 0 ne) ∙ ap (take (get_or row 0 0)) (drop-set-lt 3 row i v h)

pub link_cell : (row : List ℕ) (i v j : ℕ) → i < 3 → 3 ≤ j → get_or (set row i v) j 0 ≡ get_or row j 0
link_cell row i v j h g = let ne : j ≢ i = omega arith in get_or-set_other row i j v 0 ne

pub IsRecord-link : (atoms : ℕ) (row : List ℕ) (i v : ℕ) → 0 < i → i < 3 → IsRecord atoms row → IsRecord atoms (set row i v)
IsRecord-link atoms row i v z h r =
    let ne : 0 ≢ i = omega arith in
    let size : get_or (set row i v) 0 0 ≡ get_or row 0 0 = get_or-set_other row i 0 v 0 ne in
    record {
      size = length-set row i v ∙ r.size ∙ ap (λ (n : ℕ). 3 + max n 2) (sym size);
      one = λ l. link_cell row i v 4 h (omega arith) ∙ r.one (omega (arith, size, l));
      none = λ l. link_cell row i v 3 h (omega arith) ∙ r.none (omega (arith, size, l));
      clause = subst (IsClause atoms) (sym (literals_of-link row i v z h)) r.clause;
    }

-- ---- literals that change places
pub literals_of-swap : (atoms : ℕ) (row : List ℕ) (i j : ℕ) → IsRecord atoms row → i < get_or row 0 0 → j < get_or row 0 0 → literals_of (swap row (3 + i) (3 + j)) ≡ swap (literals_of row) i j
literals_of-swap atoms row i j r h g =
    let s = row_size atoms row r in
    let lit = length_literals atoms row r in
    let hi : 3 + i < length row = omega (arith, s.1) in let hj : 3 + j < length row = omega (arith, s.1) in
    let new = swap row (3 + i) (3 + j) in
    let len = length-swap row (3 + i) (3 + j) hi hj in
    let size : get_or new 0 0 ≡ get_or row 0 0 = swap_other row (3 + i) (3 + j) 0 hi hj (omega arith) (omega arith) in
    let new_len : length (literals_of new) ≡ get_or row 0 0 = length-take-le (get_or new 0 0) (drop 3 new) (let l = length-drop 3 new in omega (arith, l, s.1, len, size)) ∙ size in
    let ai : i < length (literals_of row) = omega (arith, lit) in let aj : j < length (literals_of row) = omega (arith, lit) in
    let old_len = length-swap (literals_of row) i j ai aj in
    same_lists (literals_of new) (swap (literals_of row) i j) (omega (arith, new_len, old_len, lit)) (λ k d l.
    let kl : k < get_or row 0 0 = omega (arith, new_len, l) in
    get_or_default (literals_of new) k d 0 l ∙ literal_in_row new k (omega (arith, size, kl)) ∙ elim (cases_eq k i) [
      | inl e ↦ ap (λ (n : ℕ). get_or new (3 + n) 0) e ∙ swap_first row (3 + i) (3 + j) hi hj ∙ sym (literal_in_row row j g) ∙ sym (swap_first (literals_of row) i j ai aj) ∙ sym (ap (λ (n : ℕ). get_or (swap (literals_of row) i j) n 0) e)
      | inr ni ↦ elim (cases_eq k j) [
        | inl e ↦ ap (λ (n : ℕ). get_or new (3 + n) 0) e ∙ swap_second row (3 + i) (3 + j) hi hj ∙ sym (literal_in_row row i h) ∙ sym (swap_second (literals_of row) i j ai aj) ∙ sym (ap (λ (n : ℕ). get_or (swap (literals_of row) i j) n 0) e)
        | inr nj ↦ swap_other row (3 + i) (3 + j) (3 + k) hi hj (omega (arith, ni)) (omega (arith, nj)) ∙ sym (literal_in_row row k kl) ∙ sym (swap_other (literals_of row) i j k ai aj ni nj)
      ]
    ]
    ∙ get_or_default (swap (literals_of row) i j) k 0 d (omega (arith, old_len, lit, kl)))

pub IsRecord-swap : (atoms : ℕ) (row : List ℕ) (i j : ℕ) → IsRecord atoms row → i < get_or row 0 0 → j < get_or row 0 0 → IsRecord atoms (swap row (3 + i) (3 + j))
IsRecord-swap atoms row i j r h g =
    let s = row_size atoms row r in
    let lit = length_literals atoms row r in
    let hi : 3 + i < length row = omega (arith, s.1) in let hj : 3 + j < length row = omega (arith, s.1) in
    let size : get_or (swap row (3 + i) (3 + j)) 0 0 ≡ get_or row 0 0 = swap_other row (3 + i) (3 + j) 0 hi hj (omega arith) (omega arith) in
    record {
      size = length-swap row (3 + i) (3 + j) hi hj ∙ r.size ∙ ap (λ (n : ℕ). 3 + max n 2) (sym size);
      one = λ l. swap_other row (3 + i) (3 + j) 4 hi hj (omega (arith, size, l)) (omega (arith, size, l)) ∙ r.one (omega (arith, size, l));
      none = λ l. absurd (omega (arith, size, l));
      clause = subst (IsClause atoms) (sym (literals_of-swap atoms row i j r h g)) (IsClause-swap atoms (literals_of row) i j (omega (arith, lit)) (omega (arith, lit)) r.clause);
    }

-- ---- one row of many
pub row_set_same : (rows : List (List ℕ)) (clause : ℕ) (row : List ℕ) → clause < length rows → row_at (set rows clause row) clause ≡ row
row_set_same rows clause row h = get_or-set_same rows clause row [] h

pub row_set_other : (rows : List (List ℕ)) (clause other : ℕ) (row : List ℕ) → other ≢ clause → row_at (set rows clause row) other ≡ row_at rows other
row_set_other rows clause other row ne = get_or-set_other rows clause other row [] ne
