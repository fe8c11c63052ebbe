-- Records in two parts.
use Rattle.std.proofs.Common.{◌≡◌, ℕ, zero, suc, ◌+◌, ◌-◌, ◌<◌, ◌≤◌, Bool, true, false, List, [], ◌∷◌, ◌++◌, length, get_or, set, take, drop, map, min, refl, sym, ◌∙◌, ap, arith, inl, inr, subst, length-set, length-drop, length-append}
use Rattle.std.specs.List.{swap}
use Rattle.std.proofs.lemmas.List.{length_push, get_or_append_left, get_or_push, get_or-set_same, get_or-set_other, set-get_or, get_or-drop}
use Rattle.std.proofs.lemmas.Bool.{cases_lt, cases_eq}
use Rattle.asp_clauses.specs.Records.{Top, row_at, record_of, row_for, no_top, top_at, top_for, has_number, linked_top, record_at, records_of, IsTopped, AreTopped}
use Rattle.asp_clauses.specs.Kept.{kept, is_kept, from_on}
use Rattle.asp_clauses.proofs.KeptLemmas.{length-kept}
use Rattle.asp_clauses.proofs.RowsLemmas.{swap_sets}
use Rattle.std.proofs.lemmas.List.Edits.{length-swap}

pub length-records_of : (tops : List Top) (rows : List (List ℕ)) → length tops ≡ length rows → length (records_of tops rows) ≡ length rows
unfolding records_of
length-records_of [] [] e = refl
length-records_of [] (row ∷ rows) e = absurd (omega (arith, e))
length-records_of (top ∷ tops) [] e = refl
length-records_of (top ∷ tops) (row ∷ rows) e = ap suc (length-records_of tops rows (omega (arith, e)))

pub row_at-records_of : (tops : List Top) (rows : List (List ℕ)) (k : ℕ) → length tops ≡ length rows → k < length rows → row_at (records_of tops rows) k ≡ record_at (top_at tops k) (row_at rows k)
unfolding records_of
row_at-records_of [] rows k e h = absurd (omega (arith, e, h))
row_at-records_of (top ∷ tops) [] k e h = absurd (omega arith)
row_at-records_of (top ∷ tops) (row ∷ rows) zero e h = refl
row_at-records_of (top ∷ tops) (row ∷ rows) (suc k) e h = row_at-records_of tops rows k (omega (arith, e)) (omega arith)

pub records_of-set : (tops : List Top) (rows : List (List ℕ)) (k : ℕ) (top : Top) (row : List ℕ) → length tops ≡ length rows → records_of (set tops k top) (set rows k row) ≡ set (records_of tops rows) k (record_at top row)
unfolding records_of
records_of-set [] [] k top row e = refl
records_of-set [] (y ∷ rows) k top row e = absurd (omega (arith, e))
records_of-set (x ∷ tops) [] k top row e = absurd (omega (arith, e))
records_of-set (x ∷ tops) (y ∷ rows) zero top row e = refl
records_of-set (x ∷ tops) (y ∷ rows) (suc k) top row e = ap (λ (l : List (List ℕ)). record_at x y ∷ l) (records_of-set tops rows k top row (omega (arith, e)))

pub records_of-push : (tops : List Top) (rows : List (List ℕ)) (top : Top) (row : List ℕ) → length tops ≡ length rows → records_of (tops ++ top ∷ []) (rows ++ row ∷ []) ≡ records_of tops rows ++ record_at top row ∷ []
unfolding records_of
records_of-push [] [] top row e = refl
records_of-push [] (y ∷ rows) top row e = absurd (omega (arith, e))
records_of-push (x ∷ tops) [] top row e = absurd (omega (arith, e))
records_of-push (x ∷ tops) (y ∷ rows) top row e = ap (λ (l : List (List ℕ)). record_at x y ∷ l) (records_of-push tops rows top row (omega (arith, e)))

pub records_of-kept : (marks : List Bool) (tops : List Top) (rows : List (List ℕ)) → length tops ≡ length rows → records_of (kept marks tops) (kept marks rows) ≡ kept marks (records_of tops rows)
unfolding records_of kept
records_of-kept [] [] [] e = refl
records_of-kept [] [] (y ∷ rows) e = absurd (omega (arith, e))
records_of-kept [] (x ∷ tops) [] e = absurd (omega (arith, e))
records_of-kept [] (x ∷ tops) (y ∷ rows) e = refl
records_of-kept (mark ∷ marks) [] [] e = refl
records_of-kept (mark ∷ marks) [] (y ∷ rows) e = absurd (omega (arith, e))
records_of-kept (mark ∷ marks) (x ∷ tops) [] e = absurd (omega (arith, e))
records_of-kept (true ∷ marks) (x ∷ tops) (y ∷ rows) e = ap (λ (l : List (List ℕ)). record_at x y ∷ l) (records_of-kept marks tops rows (omega (arith, e)))
records_of-kept (false ∷ marks) (x ∷ tops) (y ∷ rows) e = records_of-kept marks tops rows (omega (arith, e))

pub marks_alike : (tops : List Top) (rows : List (List ℕ)) → length tops ≡ length rows → map is_kept (records_of tops rows) ≡ map has_number tops
unfolding records_of
marks_alike [] rows e = refl
marks_alike (top ∷ tops) [] e = absurd (omega (arith, e))
marks_alike (top ∷ tops) (row ∷ rows) e = ap (λ (l : List Bool). has_number top ∷ l) (marks_alike tops rows (omega (arith, e)))

-- ---- the parts go together
kept_topped : (marks : List Bool) (tops : List Top) (rows : List (List ℕ)) → length tops ≡ length rows → ((k : ℕ) → k < length rows → IsTopped (top_at tops k) (row_at rows k)) →
    (k : ℕ) → k < length (kept marks rows) → IsTopped (top_at (kept marks tops) k) (row_at (kept marks rows) k)
unfolding kept
kept_topped [] tops rows e h k l = absurd (omega arith)
kept_topped (mark ∷ marks) [] [] e h k l = absurd (omega arith)
kept_topped (mark ∷ marks) [] (y ∷ rows) e h k l = absurd (omega (arith, e))
kept_topped (mark ∷ marks) (x ∷ tops) [] e h k l = absurd (omega (arith, e))
kept_topped (true ∷ marks) (x ∷ tops) (y ∷ rows) e h zero l = h 0 (omega arith)
kept_topped (true ∷ marks) (x ∷ tops) (y ∷ rows) e h (suc k) l = kept_topped marks tops rows (omega (arith, e)) (λ j m. h (suc j) (omega arith)) k (omega arith)
kept_topped (false ∷ marks) (x ∷ tops) (y ∷ rows) e h k l = kept_topped marks tops rows (omega (arith, e)) (λ j m. h (suc j) (omega arith)) k l

pub AreTopped-kept : (marks : List Bool) (tops : List Top) (rows : List (List ℕ)) → AreTopped tops rows → AreTopped (kept marks tops) (kept marks rows)
AreTopped-kept marks tops rows a = record { as_many = length-kept marks tops rows a.as_many; each = kept_topped marks tops rows a.as_many a.each }

pub AreTopped-set : (tops : List Top) (rows : List (List ℕ)) (clause : ℕ) (top : Top) (row : List ℕ) → AreTopped tops rows → clause < length rows → IsTopped top row → AreTopped (set tops clause top) (set rows clause row)
AreTopped-set tops rows clause top row a h t =
    let many = a.as_many in
    let lr = length-set rows clause row in
    record {
      as_many = length-set tops clause top ∙ a.as_many ∙ sym lr;
      each = λ k l. elim (cases_eq k clause) [
        | inl e ↦ subst (λ (n : ℕ). IsTopped (top_at (set tops clause top) n) (row_at (set rows clause row) n)) (sym e)
            (subst (λ (x : Top). IsTopped x (row_at (set rows clause row) clause)) (sym (get_or-set_same tops clause top no_top (omega (arith, h, many))))
            (subst (IsTopped top) (sym (get_or-set_same rows clause row [] h)) t))
        | inr ne ↦
            (subst (λ (x : Top). IsTopped x (row_at (set rows clause row) k)) (sym (get_or-set_other tops clause k top no_top ne))
            (subst (IsTopped (top_at tops k)) (sym (get_or-set_other rows clause k row [] ne)) (a.each k (omega (arith, lr, l)))))
      ];
    }

-- another link
pub AreTopped-link : (tops : List Top) (rows : List (List ℕ)) (clause : ℕ) (top : Top) → AreTopped tops rows → clause < length rows → top.first_watch ≡ (top_at tops clause).first_watch → top.second_watch ≡ (top_at tops clause).second_watch →
    AreTopped (set tops clause top) rows
AreTopped-link tops rows clause top a h f s =
    let t = a.each clause h in
    subst (AreTopped (set tops clause top)) (set-get_or rows clause []) (AreTopped-set tops rows clause top (row_at rows clause) a h (record { long = t.long; first = f ∙ t.first; second = s ∙ t.second }))

pub AreTopped-push : (tops : List Top) (rows : List (List ℕ)) (top : Top) (row : List ℕ) → AreTopped tops rows → IsTopped top row → AreTopped (tops ++ top ∷ []) (rows ++ row ∷ [])
AreTopped-push tops rows top row a t =
    let many = a.as_many in
    let lt = length_push tops top in let lr = length_push rows row in
    record {
      as_many = omega (arith, lt, lr, many);
      each = λ k l. elim (cases_lt k (length rows)) [
        | inl lt ↦
            subst (λ (x : Top). IsTopped x (row_at (rows ++ row ∷ []) k)) (sym (get_or_append_left tops (top ∷ []) no_top k (omega (arith, lt, many))))
            (subst (IsTopped (top_at tops k)) (sym (get_or_append_left rows (row ∷ []) [] k lt)) (a.each k lt))
        | inr ge ↦
            subst (λ (x : Top). IsTopped x (row_at (rows ++ row ∷ []) k)) (sym (get_or_push tops top no_top k (omega (arith, l, lr, ge, many))))
            (subst (IsTopped top) (sym (get_or_push rows row [] k (omega (arith, l, lr, ge)))) t)
      ];
    }

-- a new clause
pub IsTopped-new : (code : ℕ) (literals : List ℕ) → IsTopped (top_for code literals) (row_for code literals)
IsTopped-new code [] = record { long = omega arith; first = refl; second = refl }
IsTopped-new code (x ∷ []) = record { long = omega arith; first = refl; second = refl }
IsTopped-new code (x ∷ y ∷ rest) = record { long = long_new code x y rest; first = refl; second = refl }
  where
    long_new : (code x y : ℕ) (rest : List ℕ) → 3 ≤ length (row_for code (x ∷ y ∷ rest))
    long_new code x y rest = let a = length-append rest (drop (min (length (x ∷ y ∷ rest)) 2) (code ∷ code ∷ [])) in omega (arith, a)

pub record_at-new : (code : ℕ) (literals : List ℕ) → record_at (top_for code literals) (row_for code literals) ≡ record_of code literals
record_at-new code literals = refl

-- ---- what is known of a record
pub record Parts (tops : List Top) (rows records : List (List ℕ)) (clause : ℕ) : Type 0 where
  pub in_tops : clause < length tops
  pub in_rows : clause < length rows
  pub is : row_at records clause ≡ record_at (top_at tops clause) (row_at rows clause)
  pub topped : IsTopped (top_at tops clause) (row_at rows clause)
  pub size : length (row_at records clause) ≡ length (row_at rows clause) + 2

pub parts : (tops : List Top) (rows records : List (List ℕ)) (clause : ℕ) → AreTopped tops rows → records_of tops rows ≡ records → clause < length records → Parts tops rows records clause
parts tops rows records clause a e h =
    let many = a.as_many in
    let lr = length-records_of tops rows many in
    let le = ap length e in
    let in_rows : clause < length rows = omega (arith, lr, le, h) in
    let is : row_at records clause ≡ record_at (top_at tops clause) (row_at rows clause) = sym (ap (λ (x : List (List ℕ)). row_at x clause) e) ∙ row_at-records_of tops rows clause many in_rows in
    let t = a.each clause in_rows in
    let ld = length-drop 1 (row_at rows clause) in
    let ls = ap length is in
    let long = t.long in
    record { in_tops = omega (arith, many, in_rows); in_rows = in_rows; is = is; topped = t; size = omega (arith, ls, ld, long) }

-- the words of a record, from its parts
pub first_link_is : (tops : List Top) (rows records : List (List ℕ)) (clause : ℕ) → Parts tops rows records clause → (top_at tops clause).first_link ≡ get_or (row_at records clause) 1 0
first_link_is tops rows records clause p = sym (ap (λ (x : List ℕ). get_or x 1 0) p.is)

pub second_link_is : (tops : List Top) (rows records : List (List ℕ)) (clause : ℕ) → Parts tops rows records clause → (top_at tops clause).second_link ≡ get_or (row_at records clause) 2 0
second_link_is tops rows records clause p = sym (ap (λ (x : List ℕ). get_or x 2 0) p.is)

pub first_watch_is : (tops : List Top) (rows records : List (List ℕ)) (clause : ℕ) → Parts tops rows records clause → (top_at tops clause).first_watch ≡ get_or (row_at records clause) 3 0
first_watch_is tops rows records clause p = p.topped.first ∙ sym (get_or-drop 1 (row_at rows clause) 0 0) ∙ sym (ap (λ (x : List ℕ). get_or x 3 0) p.is)

pub second_watch_is : (tops : List Top) (rows records : List (List ℕ)) (clause : ℕ) → Parts tops rows records clause → (top_at tops clause).second_watch ≡ get_or (row_at records clause) 4 0
second_watch_is tops rows records clause p = p.topped.second ∙ sym (get_or-drop 1 (row_at rows clause) 1 0) ∙ sym (ap (λ (x : List ℕ). get_or x 4 0) p.is)

pub size_is : (tops : List Top) (rows records : List (List ℕ)) (clause : ℕ) → Parts tops rows records clause → get_or (row_at rows clause) 0 0 ≡ get_or (row_at records clause) 0 0
size_is tops rows records clause p = sym (ap (λ (x : List ℕ). get_or x 0 0) p.is)

pub word_at : (tops : List Top) (rows records : List (List ℕ)) (clause index : ℕ) → Parts tops rows records clause → 3 ≤ index → get_or (row_at rows clause) (index - 2) 0 ≡ get_or (row_at records clause) index 0
word_at tops rows records clause index p h =
    let row = row_at rows clause in
    let n : 1 + (index - 3) ≡ index - 2 = omega arith in
    let m : index ≡ suc (suc (suc (index - 3))) = omega arith in
    sym (ap (λ (k : ℕ). get_or row k 0) n) ∙ sym (get_or-drop 1 row (index - 3) 0)
    ∙ sym (ap (λ (x : List ℕ). get_or x (suc (suc (suc (index - 3)))) 0) p.is) ∙ sym (ap (λ (k : ℕ). get_or (row_at records clause) k 0) m)

pub literals_is : (tops : List Top) (rows records : List (List ℕ)) (clause : ℕ) → Parts tops rows records clause → take (get_or (row_at rows clause) 0 0) (drop 1 (row_at rows clause)) ≡ take (get_or (row_at records clause) 0 0) (drop 3 (row_at records clause))
literals_is tops rows records clause p = sym (ap (λ (x : List ℕ). take (get_or x 0 0) (drop 3 x)) p.is)

-- a link changes
pub linked_is : (tops : List Top) (rows records : List (List ℕ)) (clause : ℕ) (top : Top) (i v : ℕ) → AreTopped tops rows → records_of tops rows ≡ records → clause < length records →
    record_at top (row_at rows clause) ≡ set (record_at (top_at tops clause) (row_at rows clause)) i v → records_of (set tops clause top) rows ≡ set records clause (set (row_at records clause) i v)
linked_is tops rows records clause top i v a e h w =
    let p = parts tops rows records clause a e h in
    ap (records_of (set tops clause top)) (sym (set-get_or rows clause [])) ∙ records_of-set tops rows clause top (row_at rows clause) a.as_many
    ∙ ap (λ (x : List (List ℕ)). set x clause (record_at top (row_at rows clause))) e ∙ ap (set records clause) (w ∙ ap (λ (x : List ℕ). set x i v) (sym p.is))

-- two literals change places
swap_past : (a b c d : ℕ) (xs : List ℕ) (i j : ℕ) → i < length xs → j < length xs → swap (a ∷ b ∷ c ∷ xs) (suc (suc (suc i))) (suc (suc (suc j))) ≡ a ∷ b ∷ c ∷ swap xs i j
swap_past a b c d xs i j h g =
    swap_sets (a ∷ b ∷ c ∷ xs) (suc (suc (suc i))) (suc (suc (suc j))) (omega arith) (omega arith) ∙ sym (ap (λ (l : List ℕ). a ∷ b ∷ c ∷ l) (swap_sets xs i j h g))

swap_past_one : (a : ℕ) (xs : List ℕ) (i j : ℕ) → i < length xs → j < length xs → swap (a ∷ xs) (suc i) (suc j) ≡ a ∷ swap xs i j
swap_past_one a xs i j h g = swap_sets (a ∷ xs) (suc i) (suc j) (omega arith) (omega arith) ∙ sym (ap (λ (l : List ℕ). a ∷ l) (swap_sets xs i j h g))

record_swapped : (top new : Top) (row : List ℕ) (i j : ℕ) → new.first_link ≡ top.first_link → new.second_link ≡ top.second_link → 3 ≤ i → 3 ≤ j → i - 2 < length row → j - 2 < length row →
    record_at new (swap row (i - 2) (j - 2)) ≡ swap (record_at top row) i j
record_swapped top new [] i j f s hi hj li lj = absurd (omega arith)
record_swapped top new (n ∷ xs) i j f s hi hj li lj =
    let i2 : i - 2 ≡ suc (i - 3) = omega arith in let j2 : j - 2 ≡ suc (j - 3) = omega arith in
    let i3 : suc (suc (suc (i - 3))) ≡ i = omega arith in let j3 : suc (suc (suc (j - 3))) ≡ j = omega arith in
    ap (λ (k : ℕ). record_at new (swap (n ∷ xs) k (j - 2))) i2 ∙ ap (λ (k : ℕ). record_at new (swap (n ∷ xs) (suc (i - 3)) k)) j2
    ∙ ap (record_at new) (swap_past_one n xs (i - 3) (j - 3) (omega arith) (omega arith))
    ∙ ap (λ (k : ℕ). n ∷ k ∷ new.second_link ∷ swap xs (i - 3) (j - 3)) f ∙ ap (λ (k : ℕ). n ∷ top.first_link ∷ k ∷ swap xs (i - 3) (j - 3)) s
    ∙ sym (swap_past n top.first_link top.second_link 0 xs (i - 3) (j - 3) (omega arith) (omega arith))
    ∙ ap (λ (k : ℕ). swap (n ∷ top.first_link ∷ top.second_link ∷ xs) k (suc (suc (suc (j - 3))))) i3 ∙ ap (swap (n ∷ top.first_link ∷ top.second_link ∷ xs) i) j3

pub swapped_is : (tops : List Top) (rows records : List (List ℕ)) (clause : ℕ) (top : Top) (i j : ℕ) → AreTopped tops rows → records_of tops rows ≡ records → clause < length records → top.first_link ≡ (top_at tops clause).first_link → top.second_link ≡ (top_at tops clause).second_link →
    3 ≤ i → 3 ≤ j → i < length (row_at records clause) → j < length (row_at records clause) →
    records_of (set tops clause top) (set rows clause (swap (row_at rows clause) (i - 2) (j - 2))) ≡ set records clause (swap (row_at records clause) i j)
swapped_is tops rows records clause top i j a e h f s hi hj li lj =
    let p = parts tops rows records clause a e h in
    let row = row_at rows clause in
    let size = p.size in
    records_of-set tops rows clause top (swap row (i - 2) (j - 2)) a.as_many
    ∙ ap (λ (x : List (List ℕ)). set x clause (record_at top (swap row (i - 2) (j - 2)))) e
    ∙ ap (set records clause) (record_swapped (top_at tops clause) top row i j f s hi hj (omega (arith, size, li)) (omega (arith, size, lj)) ∙ ap (λ (x : List ℕ). swap x i j) (sym p.is))

pub linked_record : (top : Top) (row : List ℕ) (side v : ℕ) → side < 2 → record_at (linked_top top side v) row ≡ set (record_at top row) (1 + side) v
linked_record top row zero v h = refl
linked_record top row (suc zero) v h = refl
linked_record top row (suc (suc side)) v h = absurd (omega arith)

pub linked_watches : (top : Top) (side v : ℕ) → side < 2 → ((linked_top top side v).first_watch ≡ top.first_watch) × ((linked_top top side v).second_watch ≡ top.second_watch)
linked_watches top zero v h = (refl, refl)
linked_watches top (suc zero) v h = (refl, refl)
linked_watches top (suc (suc side)) v h = absurd (omega arith)

-- a body that reads the clause's part, and writes it with another link
pub link_written : (tops : List Top) (rows records : List (List ℕ)) (clause : ℕ) (read new : Top) (side v : ℕ) → AreTopped tops rows → records_of tops rows ≡ records → clause < length records → side < 2 → read ≡ top_at tops clause → new ≡ linked_top read side v →
    AreTopped (set tops clause new) rows × (records_of (set tops clause new) rows ≡ set records clause (set (row_at records clause) (1 + side) v))
link_written tops rows records clause read new side v a e h s r n =
    let p = parts tops rows records clause a e h in
    let is : new ≡ linked_top (top_at tops clause) side v = n ∙ ap (λ (t : Top). linked_top t side v) r in
    let w = linked_watches (top_at tops clause) side v s in (
      AreTopped-link tops rows clause new a p.in_rows (ap (λ (t : Top). t.first_watch) is ∙ w.0) (ap (λ (t : Top). t.second_watch) is ∙ w.1),
      linked_is tops rows records clause new (1 + side) v a e h (ap (λ (t : Top). record_at t (row_at rows clause)) is ∙ linked_record (top_at tops clause) (row_at rows clause) side v s),
    )

-- a body that exchanges two literals of the row, and reads the first two anew
pub swap_written : (tops : List Top) (rows rows1 records : List (List ℕ)) (clause : ℕ) (read new : Top) (i j : ℕ) → AreTopped tops rows → records_of tops rows ≡ records → clause < length records → 3 ≤ i → 3 ≤ j → i < length (row_at records clause) → j < length (row_at records clause) →
    rows1 ≡ set rows clause (swap (row_at rows clause) (i - 2) (j - 2)) → read ≡ top_at tops clause → new.first_link ≡ read.first_link → new.second_link ≡ read.second_link → new.first_watch ≡ get_or (row_at rows1 clause) 1 0 → new.second_watch ≡ get_or (row_at rows1 clause) 2 0 →
    AreTopped (set tops clause new) rows1 × (records_of (set tops clause new) rows1 ≡ set records clause (swap (row_at records clause) i j))
swap_written tops rows rows1 records clause read new i j a e h hi hj li lj w r f s fw sw =
    let p = parts tops rows records clause a e h in
    let row = swap (row_at rows clause) (i - 2) (j - 2) in
    let here : row_at rows1 clause ≡ row = ap (λ (x : List (List ℕ)). row_at x clause) w ∙ get_or-set_same rows clause row [] p.in_rows in
    let t = p.topped in let long = t.long in
    let ls = length-swap (row_at rows clause) (i - 2) (j - 2) in
    let topped : IsTopped new row = record { long = omega (arith, ls, long); first = fw ∙ ap (λ (x : List ℕ). get_or x 1 0) here; second = sw ∙ ap (λ (x : List ℕ). get_or x 2 0) here } in (
      subst (AreTopped (set tops clause new)) (sym w) (AreTopped-set tops rows clause new row a p.in_rows topped),
      ap (records_of (set tops clause new)) w ∙ swapped_is tops rows records clause new i j a e h (f ∙ ap (λ (x : Top). x.first_link) r) (s ∙ ap (λ (x : Top). x.second_link) r) hi hj li lj,
    )

pub compacted_records : (from : ℕ) (tops tops1 : List Top) (rows rows1 records : List (List ℕ)) → AreTopped tops rows → records_of tops rows ≡ records → tops1 ≡ kept (from_on from (map has_number tops)) tops → rows1 ≡ kept (from_on from (map has_number tops)) rows →
    AreTopped tops1 rows1 × (records_of tops1 rows1 ≡ kept (from_on from (map is_kept records)) records)
compacted_records from tops tops1 rows rows1 records a e t r =
    let marks = from_on from (map has_number tops) in (
      subst (λ (x : List Top). AreTopped x rows1) (sym t) (subst (AreTopped (kept marks tops)) (sym r) (AreTopped-kept marks tops rows a)),
      ap (λ (x : List Top). records_of x rows1) t ∙ ap (records_of (kept marks tops)) r ∙ records_of-kept marks tops rows a.as_many
          ∙ ap (λ (m : List Bool). kept (from_on from m) (records_of tops rows)) (sym (marks_alike tops rows a.as_many)) ∙ ap (λ (x : List (List ℕ)). kept (from_on from (map is_kept x)) x) e,
    )

pub pushed_records : (tops tops1 : List Top) (rows rows1 records : List (List ℕ)) (code : ℕ) (literals : List ℕ) (top : Top) → AreTopped tops rows → records_of tops rows ≡ records → top ≡ top_for code literals → tops1 ≡ tops ++ top ∷ [] → rows1 ≡ rows ++ row_for code literals ∷ [] →
    AreTopped tops1 rows1 × (records_of tops1 rows1 ≡ records ++ record_of code literals ∷ [])
pushed_records tops tops1 rows rows1 records code literals top a e is t r =
    let new = top_for code literals in let row = row_for code literals in
    let t' : tops1 ≡ tops ++ new ∷ [] = t ∙ ap (λ (x : Top). tops ++ x ∷ []) is in (
      subst (λ (x : List Top). AreTopped x rows1) (sym t') (subst (AreTopped (tops ++ new ∷ [])) (sym r) (AreTopped-push tops rows new row a (IsTopped-new code literals))),
      ap (λ (x : List Top). records_of x rows1) t' ∙ ap (records_of (tops ++ new ∷ [])) r ∙ records_of-push tops rows new row a.as_many ∙ ap (λ (x : List (List ℕ)). x ++ record_of code literals ∷ []) e,
    )

pub records_none : (tops : List Top) (rows : List (List ℕ)) → tops ≡ [] → records_of tops rows ≡ []
unfolding records_of
records_none tops rows e = ap (λ (x : List Top). records_of x rows) e

pub swapped_row : (tops : List Top) (rows rows1 records : List (List ℕ)) (clause i j : ℕ) → AreTopped tops rows → records_of tops rows ≡ records → clause < length records → rows1 ≡ set rows clause (swap (row_at rows clause) (i - 2) (j - 2)) →
    (clause < length rows1) × (3 ≤ length (row_at rows1 clause))
swapped_row tops rows rows1 records clause i j a e h w =
    let p = parts tops rows records clause a e h in
    let row = swap (row_at rows clause) (i - 2) (j - 2) in
    let l = ap length w ∙ length-set rows clause row in
    let n = ap length (ap (λ (x : List (List ℕ)). row_at x clause) w ∙ get_or-set_same rows clause row [] p.in_rows) ∙ length-swap (row_at rows clause) (i - 2) (j - 2) in
    let in_rows = p.in_rows in let long = p.topped.long in
    (omega (arith, l, in_rows), omega (arith, n, long))
