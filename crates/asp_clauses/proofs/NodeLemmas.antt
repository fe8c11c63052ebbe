-- Two nodes of each clause as what visits read of it.
use Rattle.std.proofs.Common.{◌≡◌, ◌≢◌, ℕ, zero, suc, ◌+◌, ◌-◌, ◌*◌, ◌<◌, ◌≤◌, Bool, true, List, [], ◌∷◌, ◌++◌, length, get_or, set, take, map, refl, sym, ◌∙◌, ap, arith, inl, inr, subst, length-set, length-append, add-one}
use Rattle.std.specs.List.{swap}
use Rattle.std.proofs.lemmas.List.{length_push, get_or-set_same, length-take-le}
use Rattle.std.proofs.lemmas.Bool.{cases_eq}
use Rattle.asp_clauses.specs.declared.records.Node.{Node}
use Rattle.asp_clauses.specs.Records.{Top, row_at, end, record_of, row_for, no_node, node_at, no_top, top_at, top_of, tops_of, top_for, nodes_for, has_number, linked_top, records_of, AreTopped, AreNodes}
use Rattle.asp_clauses.specs.Kept.{kept, is_kept, from_on, mark_of}
use Rattle.asp_clauses.proofs.KeptLemmas.{length-kept}
use Rattle.asp_clauses.proofs.KeepLemmas.{IsKeeping, kept_item}
use Rattle.asp_clauses.proofs.WatchLemmas.{swap_first, swap_other}
use Rattle.asp_clauses.proofs.RecordLemmas.{parts, first_link_is, second_link_is, first_watch_is, second_watch_is, link_written, swap_written, pushed_records, compacted_records}

pub length-tops_of : (nodes : List Node) (n : ℕ) → length nodes ≡ n + n → length (tops_of nodes) ≡ n
unfolding tops_of
length-tops_of [] n e = omega (arith, e)
length-tops_of (x ∷ []) n e = absurd (omega (arith, e))
length-tops_of (x ∷ y ∷ nodes) zero e = absurd (omega (arith, e))
length-tops_of (x ∷ y ∷ nodes) (suc n) e = ap suc (length-tops_of nodes n (omega (arith, e)))

tops_at : (nodes : List Node) (k n : ℕ) → n ≡ k + k → suc n < length nodes → top_at (tops_of nodes) k ≡ top_of (node_at nodes n) (node_at nodes (suc n))
unfolding tops_of
tops_at [] k n e h = absurd (omega arith)
tops_at (x ∷ []) k n e h = absurd (omega arith)
tops_at (x ∷ y ∷ nodes) zero zero e h = refl
tops_at (x ∷ y ∷ nodes) zero (suc n) e h = absurd (omega (arith, e))
tops_at (x ∷ y ∷ nodes) (suc k) zero e h = absurd (omega (arith, e))
tops_at (x ∷ y ∷ nodes) (suc k) (suc zero) e h = absurd (omega (arith, e))
tops_at (x ∷ y ∷ nodes) (suc k) (suc (suc n)) e h = tops_at nodes k n (omega (arith, e)) (omega arith)

tops_set_first : (nodes : List Node) (k n : ℕ) (node : Node) → n ≡ k + k → suc n < length nodes → tops_of (set nodes n node) ≡ set (tops_of nodes) k (top_of node (node_at nodes (suc n)))
unfolding tops_of
tops_set_first [] k n node e h = absurd (omega arith)
tops_set_first (x ∷ []) k n node e h = absurd (omega arith)
tops_set_first (x ∷ y ∷ nodes) zero zero node e h = refl
tops_set_first (x ∷ y ∷ nodes) zero (suc n) node e h = absurd (omega (arith, e))
tops_set_first (x ∷ y ∷ nodes) (suc k) zero node e h = absurd (omega (arith, e))
tops_set_first (x ∷ y ∷ nodes) (suc k) (suc zero) node e h = absurd (omega (arith, e))
tops_set_first (x ∷ y ∷ nodes) (suc k) (suc (suc n)) node e h = ap (λ (l : List Top). top_of x y ∷ l) (tops_set_first nodes k n node (omega (arith, e)) (omega arith))

tops_set_second : (nodes : List Node) (k n : ℕ) (node : Node) → n ≡ k + k → suc n < length nodes → tops_of (set nodes (suc n) node) ≡ set (tops_of nodes) k (top_of (node_at nodes n) node)
unfolding tops_of
tops_set_second [] k n node e h = absurd (omega arith)
tops_set_second (x ∷ []) k n node e h = absurd (omega arith)
tops_set_second (x ∷ y ∷ nodes) zero zero node e h = refl
tops_set_second (x ∷ y ∷ nodes) zero (suc n) node e h = absurd (omega (arith, e))
tops_set_second (x ∷ y ∷ nodes) (suc k) zero node e h = absurd (omega (arith, e))
tops_set_second (x ∷ y ∷ nodes) (suc k) (suc zero) node e h = absurd (omega (arith, e))
tops_set_second (x ∷ y ∷ nodes) (suc k) (suc (suc n)) node e h = ap (λ (l : List Top). top_of x y ∷ l) (tops_set_second nodes k n node (omega (arith, e)) (omega arith))

tops_push : (nodes : List Node) (k : ℕ) (a b : Node) → length nodes ≡ k + k → tops_of (nodes ++ a ∷ b ∷ []) ≡ tops_of nodes ++ top_of a b ∷ []
unfolding tops_of
tops_push [] k a b e = refl
tops_push (x ∷ []) k a b e = absurd (omega (arith, e))
tops_push (x ∷ y ∷ nodes) zero a b e = absurd (omega (arith, e))
tops_push (x ∷ y ∷ nodes) (suc k) a b e = ap (λ (l : List Top). top_of x y ∷ l) (tops_push nodes k a b (omega (arith, e)))

tops_take : (nodes : List Node) (k n : ℕ) → n ≡ k + k → tops_of (take n nodes) ≡ take k (tops_of nodes)
unfolding tops_of
tops_take [] zero zero e = refl
tops_take [] zero (suc n) e = refl
tops_take [] (suc k) zero e = refl
tops_take [] (suc k) (suc n) e = refl
tops_take (x ∷ []) zero zero e = refl
tops_take (x ∷ []) zero (suc n) e = absurd (omega (arith, e))
tops_take (x ∷ []) (suc k) zero e = absurd (omega (arith, e))
tops_take (x ∷ []) (suc k) (suc zero) e = absurd (omega (arith, e))
tops_take (x ∷ []) (suc k) (suc (suc n)) e = refl
tops_take (x ∷ y ∷ nodes) zero zero e = refl
tops_take (x ∷ y ∷ nodes) zero (suc n) e = absurd (omega (arith, e))
tops_take (x ∷ y ∷ nodes) (suc k) zero e = absurd (omega (arith, e))
tops_take (x ∷ y ∷ nodes) (suc k) (suc zero) e = absurd (omega (arith, e))
tops_take (x ∷ y ∷ nodes) (suc k) (suc (suc n)) e = ap (λ (l : List Top). top_of x y ∷ l) (tops_take nodes k n (omega (arith, e)))

-- ---- the same by twice a clause's number
pub top_is : (nodes : List Node) (clause : ℕ) → 2 * clause + 1 < length nodes → top_at (tops_of nodes) clause ≡ top_of (node_at nodes (2 * clause)) (node_at nodes (2 * clause + 1))
top_is nodes clause h =
    let next : 2 * clause + 1 ≡ suc (2 * clause) = add-one (2 * clause) in
    tops_at nodes clause (2 * clause) (omega arith) (omega arith) ∙ ap (λ (n : ℕ). top_of (node_at nodes (2 * clause)) (node_at nodes n)) (sym next)

pub top_of_two : (nodes : List Node) (clause : ℕ) (a b : Node) → 2 * clause + 1 < length nodes → tops_of (set (set nodes (2 * clause) a) (2 * clause + 1) b) ≡ set (tops_of nodes) clause (top_of a b)
top_of_two nodes clause a b h =
    let at = 2 * clause in
    let one = set nodes at a in
    let next : at + 1 ≡ suc at = add-one at in
    let l = length-set nodes at a in
    ap (λ (n : ℕ). tops_of (set one n b)) next ∙ tops_set_second one clause at b (omega arith) (omega (arith, l, h))
    ∙ ap (λ (x : Node). set (tops_of one) clause (top_of x b)) (get_or-set_same nodes at a no_node (omega (arith, h)))
    ∙ ap (λ (x : List Top). set x clause (top_of a b)) (tops_set_first nodes clause at a (omega arith) (omega (arith, h)))
    ∙ set-twice (tops_of nodes) clause (top_of a (node_at nodes (suc at))) (top_of a b)
  where
    set-twice : (xs : List Top) (k : ℕ) (x y : Top) → set (set xs k x) k y ≡ set xs k y
    set-twice [] k x y = refl
    set-twice (z ∷ xs) zero x y = refl
    set-twice (z ∷ xs) (suc k) x y = ap (λ (l : List Top). z ∷ l) (set-twice xs k x y)

pub tops_first : (nodes : List Node) (clause : ℕ) (node : Node) → 2 * clause + 1 < length nodes → tops_of (set nodes (2 * clause + 0) node) ≡ set (tops_of nodes) clause (top_of node (node_at nodes (2 * clause + 1)))
tops_first nodes clause node h =
    let at : 2 * clause + 0 ≡ 2 * clause = omega arith in
    let next : 2 * clause + 1 ≡ suc (2 * clause) = add-one (2 * clause) in
    ap (λ (n : ℕ). tops_of (set nodes n node)) at ∙ tops_set_first nodes clause (2 * clause) node (omega arith) (omega (arith, h)) ∙ ap (λ (n : ℕ). set (tops_of nodes) clause (top_of node (node_at nodes n))) (sym next)

pub tops_second : (nodes : List Node) (clause : ℕ) (node : Node) → 2 * clause + 1 < length nodes → tops_of (set nodes (2 * clause + 1) node) ≡ set (tops_of nodes) clause (top_of (node_at nodes (2 * clause)) node)
tops_second nodes clause node h =
    let next : 2 * clause + 1 ≡ suc (2 * clause) = add-one (2 * clause) in
    ap (λ (n : ℕ). tops_of (set nodes n node)) next ∙ tops_set_second nodes clause (2 * clause) node (omega arith) (omega (arith, h))

-- another link
tops_linked : (nodes : List Node) (clause side v : ℕ) (node : Node) → 2 * clause + 1 < length nodes → side < 2 → node ≡ node_at nodes (2 * clause + side) →
    tops_of (set nodes (2 * clause + side) (record { next = v; other = node.other })) ≡ set (tops_of nodes) clause (linked_top (top_at (tops_of nodes) clause) side v)
tops_linked nodes clause zero v node h s e =
    let at : 2 * clause + 0 ≡ 2 * clause = omega arith in
    let new : Node = record { next = v; other = node.other } in
    let is : node ≡ node_at nodes (2 * clause) = e ∙ ap (node_at nodes) at in
    tops_first nodes clause new h
    ∙ ap (λ (x : Node). let y : Node = record { next = v; other = x.other } in set (tops_of nodes) clause (top_of y (node_at nodes (2 * clause + 1)))) is
    ∙ ap (λ (t : Top). set (tops_of nodes) clause (linked_top t 0 v)) (sym (top_is nodes clause h))
tops_linked nodes clause (suc zero) v node h s e =
    let new : Node = record { next = v; other = node.other } in
    tops_second nodes clause new h
    ∙ ap (λ (x : Node). let y : Node = record { next = v; other = x.other } in set (tops_of nodes) clause (top_of (node_at nodes (2 * clause)) y)) e
    ∙ ap (λ (t : Top). set (tops_of nodes) clause (linked_top t 1 v)) (sym (top_is nodes clause h))
tops_linked nodes clause (suc (suc side)) v node h s e = absurd (omega arith)

-- ---- nodes and rows
pub many_tops : (nodes : List Node) (rows : List (List ℕ)) → length nodes ≡ 2 * length rows → length (tops_of nodes) ≡ length rows
many_tops nodes rows e = length-tops_of nodes (length rows) (omega (arith, e))

pub in_rows : (nodes : List Node) (rows records : List (List ℕ)) (clause : ℕ) → AreNodes nodes rows → records_of (tops_of nodes) rows ≡ records → clause < length records → clause < length rows
in_rows nodes rows records clause a e h = (parts (tops_of nodes) rows records clause a.topped e h).in_rows

pub node_within : (nodes : List Node) (rows records : List (List ℕ)) (clause side : ℕ) → AreNodes nodes rows → records_of (tops_of nodes) rows ≡ records → clause < length records → side < 2 → 2 * clause + side < length nodes
node_within nodes rows records clause side a e h s = let r = in_rows nodes rows records clause a e h in let many = a.as_many in omega (arith, many, r, s)

-- what a node tells of the clause's record
pub link_read : (nodes : List Node) (rows records : List (List ℕ)) (clause side : ℕ) (node : Node) → AreNodes nodes rows → records_of (tops_of nodes) rows ≡ records → clause < length records → side < 2 → node ≡ node_at nodes (2 * clause + side) → node.next ≡ get_or (row_at records clause) (1 + side) 0
link_read nodes rows records clause zero node a e h s n =
    let at : 2 * clause + 0 ≡ 2 * clause = omega arith in
    let within = node_within nodes rows records clause 1 a e h (omega arith) in
    ap (λ (x : Node). x.next) (n ∙ ap (node_at nodes) at) ∙ sym (ap (λ (t : Top). t.first_link) (top_is nodes clause within)) ∙ first_link_is (tops_of nodes) rows records clause (parts (tops_of nodes) rows records clause a.topped e h)
link_read nodes rows records clause (suc zero) node a e h s n =
    let within = node_within nodes rows records clause 1 a e h (omega arith) in
    ap (λ (x : Node). x.next) n ∙ sym (ap (λ (t : Top). t.second_link) (top_is nodes clause within)) ∙ second_link_is (tops_of nodes) rows records clause (parts (tops_of nodes) rows records clause a.topped e h)
link_read nodes rows records clause (suc (suc side)) node a e h s n = absurd (omega arith)

pub other_read : (nodes : List Node) (rows records : List (List ℕ)) (clause side : ℕ) (node : Node) → AreNodes nodes rows → records_of (tops_of nodes) rows ≡ records → clause < length records → side < 2 → node ≡ node_at nodes (2 * clause + side) → node.other ≡ get_or (row_at records clause) (4 - side) 0
other_read nodes rows records clause zero node a e h s n =
    let at : 2 * clause + 0 ≡ 2 * clause = omega arith in
    let within = node_within nodes rows records clause 1 a e h (omega arith) in
    ap (λ (x : Node). x.other) (n ∙ ap (node_at nodes) at) ∙ sym (ap (λ (t : Top). t.second_watch) (top_is nodes clause within)) ∙ second_watch_is (tops_of nodes) rows records clause (parts (tops_of nodes) rows records clause a.topped e h)
other_read nodes rows records clause (suc zero) node a e h s n =
    let within = node_within nodes rows records clause 1 a e h (omega arith) in
    ap (λ (x : Node). x.other) n ∙ sym (ap (λ (t : Top). t.first_watch) (top_is nodes clause within)) ∙ first_watch_is (tops_of nodes) rows records clause (parts (tops_of nodes) rows records clause a.topped e h)
other_read nodes rows records clause (suc (suc side)) node a e h s n = absurd (omega arith)

-- nodes whose part was written
abbrev pub Written : List Node → List (List ℕ) → List (List ℕ) → Type 0
Written nodes rows records = AreNodes nodes rows × (records_of (tops_of nodes) rows ≡ records)

written : (nodes : List Node) (tops : List Top) (rows records : List (List ℕ)) → length nodes ≡ 2 * length rows → tops_of nodes ≡ tops → AreTopped tops rows × (records_of tops rows ≡ records) → Written nodes rows records
written nodes tops rows records many e w = (
  record { as_many = many; topped = subst (λ (x : List Top). AreTopped x rows) (sym e) w.0 },
  ap (λ (x : List Top). records_of x rows) e ∙ w.1,
)

pub linked_nodes : (nodes : List Node) (rows records : List (List ℕ)) (clause side v : ℕ) (node : Node) → AreNodes nodes rows → records_of (tops_of nodes) rows ≡ records → clause < length records → side < 2 → node ≡ node_at nodes (2 * clause + side) →
    Written (set nodes (2 * clause + side) (record { next = v; other = node.other })) rows (set records clause (set (row_at records clause) (1 + side) v))
linked_nodes nodes rows records clause side v node a e h s n =
    let new : Node = record { next = v; other = node.other } in
    let tops = tops_of nodes in let top = top_at tops clause in
    written (set nodes (2 * clause + side) new) (set tops clause (linked_top top side v)) rows (set records clause (set (row_at records clause) (1 + side) v))
    (length-set nodes (2 * clause + side) new ∙ a.as_many)
    (tops_linked nodes clause side v node (node_within nodes rows records clause 1 a e h (omega arith)) s n)
    (link_written tops rows records clause top (linked_top top side v) side v a.topped e h s refl refl)

pub swapped_nodes : (nodes : List Node) (rows rows1 records : List (List ℕ)) (clause i j first second : ℕ) (these those : Node) → AreNodes nodes rows → records_of (tops_of nodes) rows ≡ records → clause < length records → 3 ≤ i → 3 ≤ j → i < length (row_at records clause) → j < length (row_at records clause) →
    rows1 ≡ set rows clause (swap (row_at rows clause) (i - 2) (j - 2)) → first ≡ get_or (row_at rows1 clause) 1 0 → second ≡ get_or (row_at rows1 clause) 2 0 → these ≡ node_at nodes (2 * clause) → those ≡ node_at nodes (2 * clause + 1) →
    Written (set (set nodes (2 * clause) (record { next = these.next; other = second })) (2 * clause + 1) (record { next = those.next; other = first })) rows1 (set records clause (swap (row_at records clause) i j))
swapped_nodes nodes rows rows1 records clause i j first second these those a e h hi hj li lj w f s n m =
    let x : Node = record { next = these.next; other = second } in let y : Node = record { next = those.next; other = first } in
    let tops = tops_of nodes in let top = top_at tops clause in
    let within = node_within nodes rows records clause 1 a e h (omega arith) in
    let is = top_is nodes clause within in
    let lr = ap length w ∙ length-set rows clause (swap (row_at rows clause) (i - 2) (j - 2)) in
    let many = a.as_many in let l1 = length-set nodes (2 * clause) x in let l2 = length-set (set nodes (2 * clause) x) (2 * clause + 1) y in
    written (set (set nodes (2 * clause) x) (2 * clause + 1) y) (set tops clause (top_of x y)) rows1 (set records clause (swap (row_at records clause) i j))
    (omega (arith, lr, many, l1, l2))
    (top_of_two nodes clause x y within)
    (swap_written tops rows rows1 records clause top (top_of x y) i j a.topped e h hi hj li lj w refl (ap (λ (k : Node). k.next) n ∙ sym (ap (λ (t : Top). t.first_link) is)) (ap (λ (k : Node). k.next) m ∙ sym (ap (λ (t : Top). t.second_link) is)) f s)

pub exchanged_nodes : (nodes : List Node) (rows rows1 records : List (List ℕ)) (clause side index literal : ℕ) (node : Node) → AreNodes nodes rows → records_of (tops_of nodes) rows ≡ records → clause < length records → side < 2 → 2 ≤ index → 3 + index < length (row_at records clause) →
    literal ≡ get_or (row_at rows clause) (1 + index) 0 → rows1 ≡ set rows clause (swap (row_at rows clause) (1 + side) (1 + index)) → node ≡ node_at nodes (2 * clause + (1 - side)) →
    Written (set nodes (2 * clause + (1 - side)) (record { next = node.next; other = literal })) rows1 (set records clause (swap (row_at records clause) (3 + side) (3 + index)))
exchanged_nodes nodes rows rows1 records clause side index literal node a e h s two l is w n =
    let tops = tops_of nodes in let top = top_at tops clause in
    let p = parts tops rows records clause a.topped e h in
    let row = row_at rows clause in
    let size = p.size in
    let within = node_within nodes rows records clause 1 a e h (omega arith) in
    let top_now = top_is nodes clause within in
    let lr = ap length w ∙ length-set rows clause (swap row (1 + side) (1 + index)) in
    let new : Node = record { next = node.next; other = literal } in
    let many = a.as_many in let ln = length-set nodes (2 * clause + (1 - side)) new in
    let j : (3 + index) - 2 ≡ 1 + index = omega arith in
    let i : (3 + side) - 2 ≡ 1 + side = omega arith in
    let in_row : 1 + index < length row = omega (arith, size, l) in
    let low : 1 + side < length row = omega (arith, in_row, s, two) in
    let here : row_at rows1 clause ≡ swap row (1 + side) (1 + index) = ap (λ (x : List (List ℕ)). row_at x clause) w ∙ get_or-set_same rows clause (swap row (1 + side) (1 + index)) [] p.in_rows in
    let rows_is : rows1 ≡ set rows clause (swap row ((3 + side) - 2) ((3 + index) - 2)) = w ∙ ap (λ (k : ℕ). set rows clause (swap row k (1 + index))) (sym i) ∙ ap (λ (k : ℕ). set rows clause (swap row ((3 + side) - 2) k)) (sym j) in
    let moved : literal ≡ get_or (row_at rows1 clause) (1 + side) 0 = is ∙ sym (ap (λ (x : List ℕ). get_or x (1 + side) 0) here ∙ swap_first row (1 + side) (1 + index) low in_row) in
    let stays : (k : ℕ) → k < 1 + index → k ≢ 1 + side → get_or row k 0 ≡ get_or (row_at rows1 clause) k 0 = λ k lt ne. sym (ap (λ (x : List ℕ). get_or x k 0) here ∙ swap_other row (1 + side) (1 + index) k low in_row ne (omega (arith, lt))) in
    let done : (t : Top) → tops_of (set nodes (2 * clause + (1 - side)) new) ≡ set tops clause t → t.first_link ≡ top.first_link → t.second_link ≡ top.second_link → t.first_watch ≡ get_or (row_at rows1 clause) 1 0 → t.second_watch ≡ get_or (row_at rows1 clause) 2 0 →
    Written (set nodes (2 * clause + (1 - side)) new) rows1 (set records clause (swap (row_at records clause) (3 + side) (3 + index))) = λ t te fl sl fw sw.
    written (set nodes (2 * clause + (1 - side)) new) (set tops clause t) rows1 (set records clause (swap (row_at records clause) (3 + side) (3 + index))) (omega (arith, lr, many, ln)) te
    (swap_written tops rows rows1 records clause top t (3 + side) (3 + index) a.topped e h (omega arith) (omega arith) (omega (arith, l, s, two)) l rows_is refl fl sl fw sw) in
    elim (cases_eq side 0) [
      | inl z ↦
          let at : 2 * clause + (1 - side) ≡ 2 * clause + 1 = omega (arith, z) in
          let one : 1 + side ≡ 1 = omega (arith, z) in
          let read = n ∙ ap (node_at nodes) at in
          done (top_of (node_at nodes (2 * clause)) new)
          (ap (λ (k : ℕ). tops_of (set nodes k new)) at ∙ tops_second nodes clause new within)
          (sym (ap (λ (t : Top). t.first_link) top_now))
          (ap (λ (k : Node). k.next) read ∙ sym (ap (λ (t : Top). t.second_link) top_now))
          (moved ∙ ap (λ (k : ℕ). get_or (row_at rows1 clause) k 0) one)
          (sym (ap (λ (t : Top). t.second_watch) top_now) ∙ p.topped.second ∙ stays 2 (omega (arith, two)) (omega (arith, z)))
      | inr nz ↦
          let at : 2 * clause + (1 - side) ≡ 2 * clause + 0 = omega (arith, nz, s) in
          let first : 2 * clause + 0 ≡ 2 * clause = omega arith in
          let other : 1 + side ≡ 2 = omega (arith, nz, s) in
          let read = n ∙ ap (node_at nodes) (at ∙ first) in
          done (top_of new (node_at nodes (2 * clause + 1)))
          (ap (λ (k : ℕ). tops_of (set nodes k new)) at ∙ tops_first nodes clause new within)
          (ap (λ (k : Node). k.next) read ∙ sym (ap (λ (t : Top). t.first_link) top_now))
          (sym (ap (λ (t : Top). t.second_link) top_now))
          (sym (ap (λ (t : Top). t.first_watch) top_now) ∙ p.topped.first ∙ stays 1 (omega (arith, two)) (omega (arith, nz)))
          (moved ∙ ap (λ (k : ℕ). get_or (row_at rows1 clause) k 0) other)
    ]

pub pushed_nodes : (nodes nodes1 : List Node) (rows rows1 records : List (List ℕ)) (code : ℕ) (literals : List ℕ) → AreNodes nodes rows → records_of (tops_of nodes) rows ≡ records → nodes1 ≡ nodes ++ nodes_for code literals → rows1 ≡ rows ++ row_for code literals ∷ [] →
    Written nodes1 rows1 (records ++ record_of code literals ∷ [])
pushed_nodes nodes nodes1 rows rows1 records code literals a e n r =
    let many = a.as_many in
    let ln = ap length n ∙ length-append nodes (nodes_for code literals) in let lr = ap length r ∙ length_push rows (row_for code literals) in
    written nodes1 (tops_of nodes ++ top_for code literals ∷ []) rows1 (records ++ record_of code literals ∷ [])
    (omega (arith, ln, lr, many))
    (ap tops_of n ∙ tops_push nodes (length rows) (record { next = end; other = get_or literals 1 code }) (record { next = end; other = get_or literals 0 code }) (omega (arith, many)))
    (pushed_records (tops_of nodes) (tops_of nodes ++ top_for code literals ∷ []) rows rows1 records code literals (top_for code literals) a.topped e refl refl r)

pub compacted_nodes : (from : ℕ) (nodes nodes1 : List Node) (rows rows1 records : List (List ℕ)) → AreNodes nodes rows → records_of (tops_of nodes) rows ≡ records → length nodes1 ≡ 2 * length (tops_of nodes1) → tops_of nodes1 ≡ kept (from_on from (map has_number (tops_of nodes))) (tops_of nodes) →
    rows1 ≡ kept (from_on from (map has_number (tops_of nodes))) rows → Written nodes1 rows1 (kept (from_on from (map is_kept records)) records)
compacted_nodes from nodes nodes1 rows rows1 records a e even t r =
    let marks = from_on from (map has_number (tops_of nodes)) in
    let lt = ap length t in let lr = ap length r in let lk = length-kept marks (tops_of nodes) rows (many_tops nodes rows a.as_many) in
    written nodes1 (tops_of nodes1) rows1 (kept (from_on from (map is_kept records)) records)
    (omega (arith, even, lt, lr, lk)) refl
    (compacted_records from (tops_of nodes) (tops_of nodes1) rows rows1 records a.topped e t r)

pub no_nodes : (nodes : List Node) (rows : List (List ℕ)) → nodes ≡ [] → rows ≡ [] → Written nodes rows []
unfolding records_of tops_of
no_nodes nodes rows n r = written nodes [] rows [] (let ln = ap length n in let lr = ap length r in omega (arith, ln, lr)) (ap tops_of n) (
  record { as_many = sym (ap length r); each = λ clause h. let lr = ap length r in absurd (omega (arith, h, lr)) },
  refl,
)

-- ---- nodes that move to the front
pub kept_node : (marks : List Bool) (nodes0 nodes nodes1 : List Node) (done count count1 : ℕ) (first second : Node) → IsKeeping no_top marks (tops_of nodes0) (tops_of nodes) done count → length nodes ≡ length nodes0 → length nodes0 ≡ 2 * length (tops_of nodes0) → done < length marks → length marks ≡ length (tops_of nodes0) → mark_of marks done ≡ true →
    first ≡ node_at nodes (2 * done) → second ≡ node_at nodes (2 * done + 1) → nodes1 ≡ set (set nodes (2 * count) first) (2 * count + 1) second → count1 ≡ count + 1 → IsKeeping no_top marks (tops_of nodes0) (tops_of nodes1) (done + 1) count1 × (length nodes1 ≡ length nodes0)
kept_node marks nodes0 nodes nodes1 done count count1 first second i len even h same m f s e ec =
    let behind = i.behind in
    let within : 2 * done + 1 < length nodes = omega (arith, len, even, h, same) in
    let item : top_of first second ≡ top_at (tops_of nodes) done = ap (λ (x : Node). top_of x second) f ∙ ap (top_of (node_at nodes (2 * done))) s ∙ sym (top_is nodes done within) in (
      kept_item no_top marks (tops_of nodes0) (tops_of nodes) (tops_of nodes1) done count count1 (top_of first second) i h same m item (ap tops_of e ∙ top_of_two nodes count first second (omega (arith, within, behind))) ec,
      ap length e ∙ length-set (set nodes (2 * count) first) (2 * count + 1) second ∙ length-set nodes (2 * count) first ∙ len,
    )

-- the mark of a node
pub number_of_node : (nodes : List Node) (clause : ℕ) (node : Node) → 2 * clause + 1 < length nodes → node ≡ node_at nodes (2 * clause) → node.next ≡ (top_at (tops_of nodes) clause).first_link
number_of_node nodes clause node h e = ap (λ (x : Node). x.next) e ∙ sym (ap (λ (t : Top). t.first_link) (top_is nodes clause h))

-- the front of the nodes, as many as clauses were kept
pub front_nodes : (nodes nodes1 : List Node) (count n : ℕ) → n ≡ 2 * count → nodes1 ≡ take n nodes → n ≤ length nodes → (tops_of nodes1 ≡ take count (tops_of nodes)) × (length nodes1 ≡ 2 * length (tops_of nodes1))
front_nodes nodes nodes1 count n e t h =
    let l = ap length t ∙ length-take-le n nodes h in
    (ap tops_of t ∙ tops_take nodes count n (omega (arith, e)), omega (arith, l, e, length-tops_of nodes1 count (omega (arith, l, e))))
