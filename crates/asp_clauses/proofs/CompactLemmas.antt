-- Records of which those without a number are removed, in place.
use Rattle.std.proofs.Common.{◌≡◌, ◌≢◌, ℕ, ◌+◌, ◌-◌, ◌^◌, ◌<◌, ◌≤◌, Bool, true, false, not, List, [], ◌∷◌, ◌++◌, length, get_or, take, drop, map, set, refl, sym, ◌∙◌, ap, arith, inl, inr, subst, length-drop, length-set, length-append}
use Rattle.std.proofs.Math.Seq.{paste}
use Rattle.std.proofs.lemmas.List.{get_or-map, length-map, length-take-le, get_or-take, drop-drop, take_more_set, get_or-set_same, get_or-set_other, length_push, get_or_append_left, get_or_push, get_or_read, same_lists, drop-take, take-take}
use Rattle.std.proofs.lemmas.List.Edits.{take-paste, drop-paste, length-paste}
use Rattle.std.proofs.lemmas.List.Sums.{count_by_more_yes, count_by_more_no}
use Rattle.std.proofs.lemmas.Bool.{cases_lt, cases_eq, ne_eqb, eq-eqb}
use Rattle.asp_clauses.specs.Records.{Top, row_at, end, no_top, top_at, has_number}
use Rattle.asp_clauses.specs.Rows.{rows_of, row_of, AreRows}
use Rattle.asp_clauses.specs.Kept.{kept, new_number, mark_of, itself, is_kept, number_in, from_on}
use Rattle.asp_clauses.proofs.RowsLemmas.{length-rows_of, get_or-rows_of, row_ends, length-row_of, rows_of-push}
use Rattle.asp_clauses.proofs.KeptLemmas.{kept_yes, kept_no, kept_all}
use Rattle.asp_clauses.proofs.FrontLemmas.{AllMarked, kept_front, length-from_on, marked_after}

-- the mark of what visits read of a clause
pub top_yes : (tops : List Top) (k x : ℕ) → k < length tops → x ≡ (top_at tops k).first_link → x ≢ end → mark_of (map has_number tops) k ≡ true
top_yes tops k x h e ne = get_or-map has_number tops k no_top false h ∙ ap not (ne_eqb (top_at tops k).first_link end (λ z. ne (e ∙ z)))

pub top_no : (tops : List Top) (k x : ℕ) → k < length tops → x ≡ (top_at tops k).first_link → x ≡ end → mark_of (map has_number tops) k ≡ false
top_no tops k x h e is = get_or-map has_number tops k no_top false h ∙ ap not (eq-eqb (top_at tops k).first_link end (sym e ∙ is))

-- the mark of a record that has a number, and of one that has none
mark_is : (rows : List (List ℕ)) (k : ℕ) → k < length rows → mark_of (map is_kept rows) k ≡ is_kept (row_at rows k)
mark_is rows k h = get_or-map is_kept rows k [] false h

pub mark_yes : (rows : List (List ℕ)) (k x : ℕ) → k < length rows → x ≡ number_in rows k → x ≢ end → mark_of (map is_kept rows) k ≡ true
mark_yes rows k x h e ne = mark_is rows k h ∙ ap not (ne_eqb (number_in rows k) end (λ z. ne (e ∙ z)))

pub mark_no : (rows : List (List ℕ)) (k x : ℕ) → k < length rows → x ≡ number_in rows k → x ≡ end → mark_of (map is_kept rows) k ≡ false
mark_no rows k x h e is = mark_is rows k h ∙ ap not (eq-eqb (number_in rows k) end (sym e ∙ is))

pub counted_yes : (from : ℕ) (rows : List (List ℕ)) (k x : ℕ) → from ≤ k → k < length rows → x ≡ number_in rows k → x ≢ end → new_number (from_on from (map is_kept rows)) (k + 1) ≡ new_number (from_on from (map is_kept rows)) k + 1
counted_yes from rows k x g h e ne =
    let l = length-map rows is_kept in let m = length-from_on from (map is_kept rows) (omega (arith, l, g, h)) in
    count_by_more_yes itself (from_on from (map is_kept rows)) k false (omega (arith, l, m, h)) (marked_after from (map is_kept rows) k g ∙ mark_yes rows k x h e ne)

pub counted_no : (from : ℕ) (rows : List (List ℕ)) (k x : ℕ) → from ≤ k → k < length rows → x ≡ number_in rows k → x ≡ end → new_number (from_on from (map is_kept rows)) (k + 1) ≡ new_number (from_on from (map is_kept rows)) k
counted_no from rows k x g h e is =
    let l = length-map rows is_kept in let m = length-from_on from (map is_kept rows) (omega (arith, l, g, h)) in
    count_by_more_no itself (from_on from (map is_kept rows)) k false (omega (arith, l, m, h)) (marked_after from (map is_kept rows) k g ∙ mark_no rows k x h e is)

-- ---- rows move down in the list of words
AreRows-push : (words starts row : List ℕ) → AreRows words starts → length starts < 2 ^ 32 → length words + length row < 2 ^ 32 → AreRows (words ++ row) (starts ++ (length words + length row) ∷ [])
AreRows-push words starts row r few small =
    let last = length words + length row in
    let starts' = starts ++ last ∷ [] in
    let len = length_push starts last in
    let lw : length (words ++ row) ≡ length words + length row = length-append words row in
    let some = r.some in
    let old : (i : ℕ) → i < length starts → get_or starts' i 0 ≡ get_or starts i 0 = λ i h. get_or_append_left starts (last ∷ []) 0 i h in
    let at_end : get_or starts' (length starts) 0 ≡ last = get_or_push starts last 0 (length starts) refl in
    record {
      some = omega (arith, len);
      few = omega (arith, len, few);
      ordered = λ i j ij h. elim (cases_lt j (length starts)) [
        | inl lt ↦ let a = old i (omega arith) in let b = old j lt in let o = r.ordered i j ij lt in omega (arith, a, b, o)
        | inr ge ↦
            let is : j ≡ length starts = omega (arith, len, h, ge) in
            let b : get_or starts' j 0 ≡ last = ap (λ (n : ℕ). get_or starts' n 0) is ∙ at_end in
            elim (cases_lt i (length starts)) [
              | inl lt ↦ let a = old i lt in let o = r.ordered i (length starts - 1) (omega arith) (omega (arith, some)) in let e = r.last in omega (arith, a, b, o, e)
              | inr gi ↦ let same : i ≡ j = omega arith in let s = ap (λ (n : ℕ). get_or starts' n 0) same in omega (arith, s)
            ]
      ];
      last = let p : length starts' - 1 ≡ length starts = omega (arith, len) in ap (λ (n : ℕ). get_or starts' n 0) p ∙ at_end ∙ sym lw;
      small = omega (arith, lw, small);
    }

-- the first `row` rows are treated, and `count` of them are kept, up to word `edge`
pub record IsCompacting (words0 starts0 : List ℕ) (marks : List Bool) (words starts : List ℕ) (row count edge : ℕ) : Type 0 where
  pub words_size : length words ≡ length words0
  pub starts_size : length starts ≡ length starts0
  pub treated : row < length starts0
  pub behind : count ≤ row
  pub lower : edge ≤ get_or starts0 row 0
  pub sound : AreRows (take edge words) (take (count + 1) starts)
  pub so_far : rows_of (take edge words) (take (count + 1) starts) ≡ kept (take row marks) (take row (rows_of words0 starts0))
  pub rest : drop (get_or starts0 row 0) words ≡ drop (get_or starts0 row 0) words0
  pub later : (j : ℕ) → row ≤ j → get_or starts j 0 ≡ get_or starts0 j 0

start_within : (words starts : List ℕ) → AreRows words starts → (k : ℕ) → k < length starts → get_or starts k 0 ≤ length words
start_within words starts r k h = let o = r.ordered k (length starts - 1) (omega arith) (omega arith) in let e = r.last in omega (arith, o, e)

-- the first rows lie in the first words
rows_of-front : (words starts : List ℕ) (from : ℕ) → AreRows words starts → from < length starts → rows_of (take (get_or starts from 0) words) (take (from + 1) starts) ≡ take from (rows_of words starts)
rows_of-front words starts from r h =
    let first = get_or starts from 0 in
    let words1 = take first words in let starts1 = take (from + 1) starts in
    let ls = length-take-le (from + 1) starts (omega arith) in
    let lr = length-rows_of words starts in
    let lt = length-take-le from (rows_of words starts) (omega (arith, lr)) in
    let l1 = length-rows_of words1 starts1 in
    same_lists (rows_of words1 starts1) (take from (rows_of words starts)) (omega (arith, ls, lt, l1)) (λ i d il.
    let within : i < from = omega (arith, il, l1, ls) in
    let a = get_or starts i 0 in let b = get_or starts (i + 1) 0 in
    let at : get_or starts1 i 0 ≡ a = get_or-take (from + 1) starts i 0 (omega (arith, within)) in
    let at_next : get_or starts1 (i + 1) 0 ≡ b = get_or-take (from + 1) starts (i + 1) 0 (omega (arith, within)) in
    let low = r.ordered i (i + 1) (omega arith) (omega (arith, within)) in
    let high = r.ordered (i + 1) from (omega (arith, within)) h in
    let there : a + (first - a) ≡ first = omega (arith, low, high) in
    get_or-rows_of words1 starts1 i d (omega (arith, ls, within))
    ∙ ap (λ (x : ℕ). take (get_or starts1 (i + 1) 0 - x) (drop x words1)) at
    ∙ ap (λ (x : ℕ). take (x - a) (drop a words1)) at_next
    ∙ ap (λ (x : ℕ). take (b - a) (drop a (take x words))) (sym there)
    ∙ ap (take (b - a)) (drop-take a (first - a) words)
    ∙ take-take (b - a) (first - a) (drop a words) (omega (arith, low, high))
    ∙ sym (get_or-rows_of words starts i d (omega (arith, within)))
    ∙ sym (get_or-take from (rows_of words starts) i d within))

pub IsCompacting-front : (words starts : List ℕ) (marks : List Bool) (from first : ℕ) → AreRows words starts → AllMarked marks from → length marks ≡ length (rows_of words starts) → from < length starts → first ≡ get_or starts from 0 → IsCompacting words starts marks words starts from from first
IsCompacting-front words starts marks from first r m lm h e =
    let small = r.small in let few = r.few in
    let lr = length-rows_of words starts in
    let within = start_within words starts r from h in
    let w = length-take-le first words (omega (arith, e, within)) in
    let s = length-take-le (from + 1) starts (omega (arith, h)) in
    let at : (i : ℕ) → i < from + 1 → get_or (take (from + 1) starts) i 0 ≡ get_or starts i 0 = λ i l. get_or-take (from + 1) starts i 0 l in
    record {
      words_size = refl;
      starts_size = refl;
      treated = h;
      behind = omega arith;
      lower = omega (arith, e);
      sound = record {
        some = omega (arith, s);
        few = omega (arith, s, few, h);
        ordered = λ i j ij l. let a = at i (omega (arith, ij, l, s)) in let b = at j (omega (arith, l, s)) in let o = r.ordered i j ij (omega (arith, l, s, h)) in omega (arith, a, b, o);
        last = let z : length (take (from + 1) starts) - 1 ≡ from = omega (arith, s) in ap (λ (n : ℕ). get_or (take (from + 1) starts) n 0) z ∙ at from (omega arith) ∙ sym e ∙ sym w;
        small = omega (arith, w, small, within, e);
      };
      so_far = ap (λ (n : ℕ). rows_of (take n words) (take (from + 1) starts)) e ∙ rows_of-front words starts from r h ∙ sym (kept_front marks (rows_of words starts) [] from m (omega (arith, lm, lr, h)) (omega (arith, lr, h)));
      rest = refl;
      later = λ j l. refl;
    }

-- what lies from a later place on stays too
rest_later : (words words0 : List ℕ) (a b : ℕ) → a ≤ b → drop a words ≡ drop a words0 → drop b words ≡ drop b words0
rest_later words words0 a b h e =
    let n : a + (b - a) ≡ b = omega arith in
    ap (λ (k : ℕ). drop k words) (sym n) ∙ sym (drop-drop (b - a) a words) ∙ ap (drop (b - a)) e ∙ drop-drop (b - a) a words0 ∙ ap (λ (k : ℕ). drop k words0) n

pub IsCompacting-no : (words0 starts0 : List ℕ) (marks : List Bool) (words starts : List ℕ) (row count edge : ℕ) → AreRows words0 starts0 → IsCompacting words0 starts0 marks words starts row count edge → row < length starts0 - 1 →
    length marks ≡ length (rows_of words0 starts0) → mark_of marks row ≡ false → IsCompacting words0 starts0 marks words starts (row + 1) count edge
IsCompacting-no words0 starts0 marks words starts row count edge r i h lm m =
    let rows = rows_of words0 starts0 in
    let lr = length-rows_of words0 starts0 in
    let ends = row_ends words0 starts0 r row h in
    let low = i.lower in
    record {
      words_size = i.words_size;
      starts_size = i.starts_size;
      treated = omega (arith, h);
      behind = let b = i.behind in omega (arith, b);
      lower = omega (arith, low, ends.0);
      sound = i.sound;
      so_far = i.so_far ∙ sym (kept_no marks rows row [] (omega (arith, lm, lr, h)) (omega (arith, lr, h)) m);
      rest = rest_later words words0 (get_or starts0 row 0) (get_or starts0 (row + 1) 0) ends.0 i.rest;
      later = λ j g. i.later j (omega arith);
    }

pub IsCompacting-yes : (words0 starts0 : List ℕ) (marks : List Bool) (words starts : List ℕ) (row count edge size : ℕ) → AreRows words0 starts0 → IsCompacting words0 starts0 marks words starts row count edge → row < length starts0 - 1 →
    length marks ≡ length (rows_of words0 starts0) → mark_of marks row ≡ true → size ≡ get_or starts0 (row + 1) 0 - get_or starts0 row 0 →
    IsCompacting words0 starts0 marks (paste words edge (drop (get_or starts0 row 0) words) size) (set starts (count + 1) (edge + size)) (row + 1) (count + 1) (edge + size)
IsCompacting-yes words0 starts0 marks words starts row count edge size r i h lm m is_size =
    let rows = rows_of words0 starts0 in
    let lr = length-rows_of words0 starts0 in
    let ends = row_ends words0 starts0 r row h in
    let start = get_or starts0 row 0 in
    let next = get_or starts0 (row + 1) 0 in
    let low = i.lower in let behind = i.behind in
    let lw = i.words_size in let ls = i.starts_size in
    let source = drop start words in
    let lsource = length-drop start words in
    let words1 = paste words edge source size in
    let starts1 = set starts (count + 1) (edge + size) in
    let fits : size ≤ length source = omega (arith, lsource, lw, ends.0, ends.1, is_size) in
    let front = take edge words in
    let lfront = length-take-le edge words (omega (arith, low, lw, ends.0, ends.1)) in
    let lstarts = length-take-le (count + 1) starts (omega (arith, behind, ls, h)) in
    let this = row_of words0 starts0 row in
    let len_this = length-row_of words0 starts0 r row h in
    let taken : take (edge + size) words1 ≡ front ++ this = take-paste words edge source size (omega (arith, low, lw, ends.0, ends.1)) fits ∙ ap (λ (x : List ℕ). front ++ take size x) i.rest ∙ ap (λ (n : ℕ). front ++ take n (drop start words0)) is_size in
    let last_is : edge + size ≡ length front + length this = omega (arith, lfront, len_this, is_size, ends.0) in
    let more : take (count + 1 + 1) starts1 ≡ take (count + 1) starts ++ (length front + length this) ∷ [] = take_more_set starts (count + 1) (edge + size) (omega (arith, behind, ls, h)) ∙ ap (λ (n : ℕ). take (count + 1) starts ++ n ∷ []) last_is in
    let few = r.few in let small = r.small in
    let pushed = AreRows-push front (take (count + 1) starts) this i.sound (omega (arith, lstarts, behind, h, few)) (omega (arith, lfront, len_this, low, ends.0, ends.1, small)) in
    let at_edge : get_or starts count 0 ≡ edge =
    let p : length (take (count + 1) starts) - 1 ≡ count = omega (arith, lstarts) in
    sym (get_or-take (count + 1) starts count 0 (omega arith)) ∙ sym (ap (λ (n : ℕ). get_or (take (count + 1) starts) n 0) p) ∙ i.sound.last ∙ lfront in
    record {
      words_size = length-paste words edge source size (omega (arith, low, lw, ends.0, ends.1, is_size)) fits ∙ lw;
      starts_size = length-set starts (count + 1) (edge + size) ∙ ls;
      treated = omega (arith, h);
      behind = omega (arith, behind);
      lower = omega (arith, low, ends.0, is_size);
      sound = subst (λ (x : List ℕ). AreRows x (take (count + 1 + 1) starts1)) (sym taken) (subst (AreRows (front ++ this)) (sym more) pushed);
      so_far = ap (λ (x : List ℕ). rows_of x (take (count + 1 + 1) starts1)) taken ∙ ap (rows_of (front ++ this)) more
          ∙ rows_of-push front (take (count + 1) starts) this i.sound
          ∙ ap (λ (x : List (List ℕ)). x ++ this ∷ []) i.so_far
          ∙ sym (kept_yes marks rows row [] (omega (arith, lm, lr, h)) (omega (arith, lr, h)) m ∙ ap (λ (x : List ℕ). kept (take row marks) (take row rows) ++ x ∷ []) (get_or-rows_of words0 starts0 row [] h));
      rest = rest_later words1 words (edge + size) next (omega (arith, low, ends.0, is_size)) (drop-paste words edge source size (omega (arith, low, lw, ends.0, ends.1)) fits)
          ∙ rest_later words words0 start next ends.0 i.rest;
      later = λ j g. elim (cases_eq j (count + 1)) [
        | inl e ↦
            let same : count ≡ row = omega (arith, behind, g, e) in
            let here : edge ≡ start = sym at_edge ∙ ap (λ (n : ℕ). get_or starts n 0) same ∙ i.later row (omega arith) in
            let j_is : j ≡ row + 1 = omega (arith, same, e) in
            ap (λ (n : ℕ). get_or starts1 n 0) e ∙ get_or-set_same starts (count + 1) (edge + size) 0 (omega (arith, ls, behind, h))
            ∙ (let q : edge + size ≡ next = omega (arith, here, is_size, ends.0) in q) ∙ sym (ap (λ (n : ℕ). get_or starts0 n 0) j_is)
        | inr ne ↦ get_or-set_other starts (count + 1) j (edge + size) 0 ne ∙ i.later j (omega arith)
      ];
    }

-- the same, as a body writes it
pub compacted_yes : (words0 starts0 : List ℕ) (marks : List Bool) (words starts words1 starts1 : List ℕ) (row count edge start next count1 edge1 : ℕ) → AreRows words0 starts0 → IsCompacting words0 starts0 marks words starts row count edge → row < length starts0 - 1 →
    length marks ≡ length (rows_of words0 starts0) → mark_of marks row ≡ true → start ≡ get_or starts0 row 0 → next ≡ get_or starts0 (row + 1) 0 →
    words1 ≡ paste words edge (drop start words) (next - start) → starts1 ≡ set starts (count + 1) (edge + (next - start)) → count1 ≡ count + 1 → edge1 ≡ edge + (next - start) →
    IsCompacting words0 starts0 marks words1 starts1 (row + 1) count1 edge1
compacted_yes words0 starts0 marks words starts words1 starts1 row count edge start next count1 edge1 r i h lm m s n ew es ec ee =
    let size = next - start in
    let size_is : size ≡ get_or starts0 (row + 1) 0 - get_or starts0 row 0 = omega (arith, s, n) in
    let base = IsCompacting-yes words0 starts0 marks words starts row count edge size r i h lm m size_is in
    subst (λ (e : ℕ). IsCompacting words0 starts0 marks words1 starts1 (row + 1) count1 e) (sym ee)
    (subst (λ (k : ℕ). IsCompacting words0 starts0 marks words1 starts1 (row + 1) k (edge + size)) (sym ec)
    (subst (λ (x : List ℕ). IsCompacting words0 starts0 marks words1 x (row + 1) (count + 1) (edge + size)) (sym es)
    (subst (λ (x : List ℕ). IsCompacting words0 starts0 marks x (set starts (count + 1) (edge + size)) (row + 1) (count + 1) (edge + size)) (sym ew)
    (subst (λ (k : ℕ). IsCompacting words0 starts0 marks (paste words edge (drop k words) size) (set starts (count + 1) (edge + size)) (row + 1) (count + 1) (edge + size)) (sym s) base))))

pub compacted_no : (words0 starts0 : List ℕ) (marks : List Bool) (words starts words1 starts1 : List ℕ) (row count edge count1 edge1 : ℕ) → AreRows words0 starts0 → IsCompacting words0 starts0 marks words starts row count edge → row < length starts0 - 1 →
    length marks ≡ length (rows_of words0 starts0) → mark_of marks row ≡ false → words1 ≡ words → starts1 ≡ starts → count1 ≡ count → edge1 ≡ edge → IsCompacting words0 starts0 marks words1 starts1 (row + 1) count1 edge1
compacted_no words0 starts0 marks words starts words1 starts1 row count edge count1 edge1 r i h lm m ew es ec ee =
    let base = IsCompacting-no words0 starts0 marks words starts row count edge r i h lm m in
    subst (λ (e : ℕ). IsCompacting words0 starts0 marks words1 starts1 (row + 1) count1 e) (sym ee)
    (subst (λ (k : ℕ). IsCompacting words0 starts0 marks words1 starts1 (row + 1) k edge) (sym ec)
    (subst (λ (x : List ℕ). IsCompacting words0 starts0 marks words1 x (row + 1) count edge) (sym es)
    (subst (λ (x : List ℕ). IsCompacting words0 starts0 marks x starts (row + 1) count edge) (sym ew) base)))

-- at the end all rows are treated
pub compacted_all : (words0 starts0 : List ℕ) (marks : List Bool) (words starts : List ℕ) (row count edge : ℕ) → AreRows words0 starts0 → IsCompacting words0 starts0 marks words starts row count edge → length marks ≡ length (rows_of words0 starts0) → row ≡ length starts0 - 1 →
    rows_of (take edge words) (take (count + 1) starts) ≡ kept marks (rows_of words0 starts0)
compacted_all words0 starts0 marks words starts row count edge r i lm e =
    let rows = rows_of words0 starts0 in
    let lr = length-rows_of words0 starts0 in
    i.so_far ∙ kept_all marks rows row (omega (arith, lm, lr, e)) (omega (arith, lr, e))

-- what a read of a start tells
pub start_of : (words0 starts0 : List ℕ) (marks : List Bool) (words starts : List ℕ) (row count edge j s : ℕ) → IsCompacting words0 starts0 marks words starts row count edge → row ≤ j → j < length starts0 → s ≡ get_or starts j s → s ≡ get_or starts0 j 0
start_of words0 starts0 marks words starts row count edge j s i h l e = let many = i.starts_size in get_or_read starts j s (omega (arith, many, l)) e 0 ∙ i.later j h
