-- The lists after a watch has moved.
use Rattle.std.proofs.Common.{◌≡◌, ◌≢◌, ℕ, ◌+◌, ◌-◌, ◌*◌, ◌<◌, ◌≤◌, ◌⊎◌, List, length, get_or, set, refl, sym, ◌∙◌, ap, arith, inl, inr, subst, length-set}
use Rattle.std.specs.List.{swap}
use Rattle.std.proofs.lemmas.Bool.{cases_eq}
use Rattle.asp_clauses.specs.declared.watches.Watches.{Watches}
use Rattle.asp_clauses.specs.Records.{row_at, literals_of, end}
use Rattle.asp_clauses.specs.Watches.{side_of, link_of, WatchingBelow, AreThreads, ListsOf, IsListed}
use Rattle.asp_clauses.specs.Visits.{consed, removed, moved, IsAt, MovesWatch}
use Rattle.asp_clauses.proofs.ListLemmas.{ListsOf-cons, ListsOf-remove}
use Rattle.asp_clauses.proofs.WatchLemmas.{cell_in_range, side_first, side_second, side_cases, side-lt, at_side, sides_differ, side_of-same, literals_of-link, link_cell, literals_of-swap, row_set_same, row_set_other}
use Rattle.asp_clauses.proofs.MoveLemmas.{AreThreads-linked, ListsOf-iff, length_linked}
use Rattle.asp_clauses.proofs.UnlinkLemmas.{length_unlinked, unlinked_cells, unlinked_literals, AreThreads-unlinked, MoveSteps, MoveFrom, move_row, swap_of, size_before, swap_known, side_before, IsStore-swapped}

abbrev WatchedBy : List ℕ → ℕ → Type 0
WatchedBy row literal = (get_or row 3 0 ≡ literal) ⊎ (get_or row 4 0 ≡ literal)

-- the clause's row in the end: what its watches are
record FinalRow (old three : Watches) (clause from to : ℕ) : Type 0 where
  pub moved_in : get_or (row_at three.records clause) (3 + side_of (row_at old.records clause) from) 0 ≡ to
  pub kept : (side : ℕ) → side < 2 → side ≢ side_of (row_at old.records clause) from → get_or (row_at three.records clause) (3 + side) 0 ≡ get_or (row_at old.records clause) (3 + side) 0
  pub new : (side : ℕ) → side < 2 → get_or (row_at old.records clause) (3 + side) 0 ≢ to
  pub left : get_or (row_at three.records clause) 3 0 ≢ from
  pub right : get_or (row_at three.records clause) 4 0 ≢ from

two_row : (old one two three : Watches) (previous clause from index : ℕ) → MoveFrom old previous clause from index → MoveSteps old one two three previous clause from index →
    row_at two.records clause ≡ swap (row_at one.records clause) (3 + side_of (row_at one.records clause) from) (3 + index)
two_row old one two three previous clause from index f m =
    let row = row_at one.records clause in
    let len = length_unlinked old one previous clause from m.unlinked in
    let h = move_row old previous clause from index f in
    ap (λ (x : List (List ℕ)). row_at x clause) m.swapped ∙ row_set_same one.records clause (swap row (3 + side_of (row_at old.records clause) from) (3 + index)) (omega (arith, len, h))
    ∙ ap (λ (n : ℕ). swap row (3 + n) (3 + index)) (sym (side_before old one previous clause from index f m.unlinked))

length_two : (old one two three : Watches) (previous clause from index : ℕ) → MoveSteps old one two three previous clause from index → length two.records ≡ length old.records
length_two old one two three previous clause from index m =
    ap length m.swapped ∙ length-set one.records clause (swap (row_at one.records clause) (3 + side_of (row_at old.records clause) from) (3 + index)) ∙ length_unlinked old one previous clause from m.unlinked

-- cells from the literals on, in the end
three_cell : (old one two three : Watches) (previous clause from index j : ℕ) → MoveFrom old previous clause from index → MoveSteps old one two three previous clause from index → 3 ≤ j →
    get_or (row_at three.records clause) j 0 ≡ get_or (row_at two.records clause) j 0
three_cell old one two three previous clause from index j f m h =
    let row = row_at two.records clause in
    let side = side_of (row_at old.records clause) from in
    let lt2 = side-lt (row_at old.records clause) from in
    let v = get_or two.heads.items (get_or row (3 + side) 0) 0 in
    let len = length_two old one two three previous clause from index m in
    let k = move_row old previous clause from index f in
    ap (λ (x : List (List ℕ)). get_or (row_at x clause) j 0) m.linked.records ∙ ap (λ (x : List ℕ). get_or x j 0) (row_set_same two.records clause (set row (1 + side) v) (omega (arith, len, k)))
    ∙ link_cell row (1 + side) v j (omega (arith, lt2)) h

three_literals : (old one two three : Watches) (previous clause from index : ℕ) → MoveFrom old previous clause from index → MoveSteps old one two three previous clause from index →
    literals_of (row_at three.records clause) ≡ literals_of (row_at two.records clause)
three_literals old one two three previous clause from index f m =
    let row = row_at two.records clause in
    let side = side_of (row_at old.records clause) from in
    let lt2 = side-lt (row_at old.records clause) from in
    let v = get_or two.heads.items (get_or row (3 + side) 0) 0 in
    let len = length_two old one two three previous clause from index m in
    let k = move_row old previous clause from index f in
    ap (λ (x : List (List ℕ)). literals_of (row_at x clause)) m.linked.records ∙ ap literals_of (row_set_same two.records clause (set row (1 + side) v) (omega (arith, len, k)))
    ∙ literals_of-link row (1 + side) v (omega arith) (omega (arith, lt2))

-- rows of other clauses keep all but links
three_other : (old one two three : Watches) (previous clause from index other : ℕ) → MoveSteps old one two three previous clause from index → other ≢ clause → row_at three.records other ≡ row_at one.records other
three_other old one two three previous clause from index other m ne =
    let side = side_of (row_at old.records clause) from in
    ap (λ (x : List (List ℕ)). row_at x other) m.linked.records
    ∙ row_set_other two.records clause other (set (row_at two.records clause) (1 + side) (get_or two.heads.items (get_or (row_at two.records clause) (3 + side) 0) 0)) ne
    ∙ ap (λ (x : List (List ℕ)). row_at x other) m.swapped ∙ row_set_other one.records clause other (swap (row_at one.records clause) (3 + side) (3 + index)) ne

other_cell : (old one two three : Watches) (previous clause from index other j : ℕ) → MoveFrom old previous clause from index → MoveSteps old one two three previous clause from index → other ≢ clause → 3 ≤ j → get_or (row_at three.records other) j 0 ≡ get_or (row_at old.records other) j 0
other_cell old one two three previous clause from index other j f m ne h =
    ap (λ (x : List ℕ). get_or x j 0) (three_other old one two three previous clause from index other m ne) ∙ unlinked_cells old one previous clause from other j m.unlinked f.before h

final_row : (old one two three : Watches) (previous clause from index : ℕ) → MoveFrom old previous clause from index → MoveSteps old one two three previous clause from index → FinalRow old three clause from (get_or (row_at old.records clause) (3 + index) 0)
final_row old one two three previous clause from index f m =
    let u = m.unlinked in
    let k = swap_known old one previous clause from index f u in
    let same = side_before old one previous clause from index f u in
    let two_is = two_row old one two three previous clause from index f m in
    let cell : (j : ℕ) → 3 ≤ j → get_or (row_at three.records clause) j 0 ≡ get_or (swap (row_at one.records clause) (3 + side_of (row_at one.records clause) from) (3 + index)) j 0 = λ j h.
    three_cell old one two three previous clause from index j f m h ∙ ap (λ (x : List ℕ). get_or x j 0) two_is in
    record {
      moved_in = cell (3 + side_of (row_at old.records clause) from) (omega arith) ∙ ap (λ (n : ℕ). get_or (swap (row_at one.records clause) (3 + side_of (row_at one.records clause) from) (3 + index)) (3 + n) 0) (sym same) ∙ k.moved_in;
      kept = λ side lt ne. cell (3 + side) (omega arith) ∙ k.kept side lt (λ e. ne (e ∙ same)) ∙ unlinked_cells old one previous clause from clause (3 + side) u f.before (omega arith);
      new = λ side lt e. k.new side lt (unlinked_cells old one previous clause from clause (3 + side) u f.before (omega arith) ∙ e);
      left = λ e. k.left (sym (cell 3 (omega arith)) ∙ e);
      right = λ e. k.right (sym (cell 4 (omega arith)) ∙ e);
    }

-- the links through the exchange
AreThreads-swapped : (old one two three : Watches) (lists : ℕ → List ℕ) (previous clause from index : ℕ) → MoveFrom old previous clause from index → MoveSteps old one two three previous clause from index →
    ((literal k : ℕ) → literal ≤ 2 * old.atoms → k < length (lists literal) → get_or (lists literal) k end ≡ clause → WatchedBy (row_at one.records clause) literal × (literal ≢ from)) →
    AreThreads old.atoms one.heads.items one.records lists → AreThreads old.atoms two.heads.items two.records lists
AreThreads-swapped old one two three lists previous clause from index f m watching t =
    let u = m.unlinked in
    let k = swap_known old one previous clause from index f u in
    let row = row_at one.records clause in
    let new_row = swap row (3 + side_of row from) (3 + index) in
    let two_is = two_row old one two three previous clause from index f m in
    let from_watched : WatchedBy row from = elim f.watching.1 [
      | inl a ↦ inl (unlinked_cells old one previous clause from clause 3 u f.before (omega arith) ∙ a)
      | inr b ↦ inr (unlinked_cells old one previous clause from clause 4 u f.before (omega arith) ∙ b)
    ] in
    let side_kept : (literal : ℕ) → WatchedBy row literal → literal ≢ from → side_of new_row literal ≡ side_of row literal = λ literal w ne.
    let apart = sides_differ row literal from w from_watched ne in
    let lt1 = side-lt row literal in let lt2 = side-lt row from in
    let here : get_or new_row (3 + side_of row literal) 0 ≡ literal = k.kept (side_of row literal) lt1 apart ∙ at_side row literal w in
    elim (side_cases row literal) [
      | inl a ↦ side_first new_row literal (sym (ap (λ (n : ℕ). get_or new_row (3 + n) 0) a.1) ∙ here) ∙ sym a.1
      | inr b ↦
          let zero_side : side_of row from ≡ 0 = let x = b.1 in omega (arith, x, apart, lt2) in
          side_second new_row literal (λ e. k.new (side_of row literal) lt1 (at_side row literal w ∙ sym e ∙ sym (ap (λ (n : ℕ). get_or new_row (3 + n) 0) zero_side) ∙ k.moved_in)) ∙ sym b.1
    ] in
    record {
      head = λ literal h. ap (λ (x : List ℕ). get_or x literal 0) m.heads ∙ t.head literal h;
      link = λ literal i h il. elim (cases_eq (get_or (lists literal) i end) clause) [
        | inl e ↦
            let w = watching literal i h il e in
            let lt1 = side-lt row literal in
            ap (link_of two.records literal) e ∙ ap (λ (x : List ℕ). get_or x (1 + side_of x literal) 0) two_is ∙ ap (λ (n : ℕ). get_or new_row (1 + n) 0) (side_kept literal w.0 w.1)
            ∙ k.links (1 + side_of row literal) (omega (arith, lt1)) ∙ sym (ap (link_of one.records literal) e) ∙ t.link literal i h il
        | inr ne ↦
            ap (λ (x : List ℕ). get_or x (1 + side_of x literal) 0) (ap (λ (x : List (List ℕ)). row_at x (get_or (lists literal) i end)) m.swapped ∙ row_set_other one.records clause (get_or (lists literal) i end) (swap row (3 + side_of (row_at old.records clause) from) (3 + index)) ne)
            ∙ t.link literal i h il
      ];
    }

pub IsListed-moved : (old one two three : Watches) (lists : ℕ → List ℕ) (k previous clause from index : ℕ) → MoveFrom old previous clause from index → MoveSteps old one two three previous clause from index → IsListed old lists → IsAt lists from k previous clause →
    IsListed three (moved lists clause from k (get_or (row_at old.records clause) (3 + index) 0))
IsListed-moved old one two three lists k previous clause from index f m l at =
    let u = m.unlinked in
    let s = f.store in
    let to = get_or (row_at old.records clause) (3 + index) 0 in
    let row = row_at old.records clause in
    let h = move_row old previous clause from index f in
    let r = s.records clause h in
    let fin = final_row old one two three previous clause from index f m in
    let to_code : to ≤ 2 * old.atoms = let c = cell_in_range old.atoms row index r f.within in omega (arith, c) in
    let lists1 = removed lists from k in
    let B0 = WatchingBelow old.records old.watched in
    let B1 : ℕ → ℕ → Type 0 = λ literal d. B0 literal d × (literal ≡ from → d ≢ clause) in
    let m1 : ListsOf B1 old.atoms lists1 = ListsOf-remove B0 B1 old.atoms lists from k l.members f.code at.within
    (λ literal d b. (b.0, λ e x. b.1 e (x ∙ at.here))) (λ literal d b n. (b, λ e x. n e (x ∙ sym at.here))) in
    let t1 = AreThreads-unlinked B0 old one lists from k previous clause s u f.code at l.threads l.members (λ literal d b. b) in
    let watching1 : (literal i : ℕ) → literal ≤ 2 * old.atoms → i < length (lists1 literal) → get_or (lists1 literal) i end ≡ clause → WatchedBy (row_at one.records clause) literal × (literal ≢ from) = λ literal i a il e.
    let q = m1.sound literal i a il in (
      subst (λ (n : ℕ). WatchedBy (row_at one.records n) literal) e (elim q.0.1 [
        | inl x ↦ inl (unlinked_cells old one previous clause from (get_or (lists1 literal) i end) 3 u f.before (omega arith) ∙ x)
        | inr y ↦ inr (unlinked_cells old one previous clause from (get_or (lists1 literal) i end) 4 u f.before (omega arith) ∙ y)
      ]),
      λ x. q.1 x e,
    ) in
    let t2 = AreThreads-swapped old one two three lists1 previous clause from index f m watching1 t1 in
    let s2 = IsStore-swapped old one two three previous clause from index f m in
    let side = side_of row from in
    let two_atoms : two.atoms ≡ old.atoms = m.atoms ∙ u.atoms in
    let len2 = length_two old one two three previous clause from index m in
    let known = swap_known old one previous clause from index f u in
    let same = side_before old one previous clause from index f u in
    let two_is = two_row old one two three previous clause from index f m in
    let two_row_is = row_at two.records clause in
    let to_there : get_or two_row_is (3 + side) 0 ≡ to = sym (three_cell old one two three previous clause from index (3 + side) f m (omega arith)) ∙ fin.moved_in in
    let to_side : side_of two_row_is to ≡ side = ap (λ (x : List ℕ). side_of x to) two_is ∙ known.to_side ∙ same in
    let free2 : (literal i : ℕ) → literal ≤ 2 * two.atoms → i < length (lists1 literal) → get_or (lists1 literal) i end ≡ clause → side_of two_row_is literal ≢ side = λ literal i a il e.
    let q = m1.sound literal i (subst (λ (n : ℕ). literal ≤ 2 * n) two_atoms a) il in
    let w : WatchedBy row literal = subst (λ (n : ℕ). WatchedBy (row_at old.records n) literal) e q.0.1 in
    let ne : literal ≢ from = λ x. q.1 x e in
    let apart = sides_differ row literal from w f.watching.1 ne in
    let lt1 = side-lt row literal in
    let here : get_or two_row_is (3 + side_of row literal) 0 ≡ literal = sym (three_cell old one two three previous clause from index (3 + side_of row literal) f m (omega arith)) ∙ fin.kept (side_of row literal) lt1 apart ∙ at_side row literal w in
    λ x. fin.new (side_of row literal) lt1 (at_side row literal w ∙ sym (at_side two_row_is literal (watched_at two_row_is literal (side_of row literal) lt1 here)) ∙ ap (λ (n : ℕ). get_or two_row_is (3 + n) 0) x ∙ to_there) in
    let t2' : AreThreads two.atoms two.heads.items two.records lists1 = subst (λ (n : ℕ). AreThreads n two.heads.items two.records lists1) (sym two_atoms) t2 in
    let t3 = AreThreads-linked two three lists1 clause side to s2 m.linked (omega (arith, len2, h)) (side-lt row from) to_there to_side free2 t2' in
    let B2 : ℕ → ℕ → Type 0 = λ literal d. B1 literal d ⊎ ((literal ≡ to) × (d ≡ clause)) in
    let m2 : ListsOf B2 old.atoms (consed lists1 to clause) = ListsOf-cons B1 B2 old.atoms lists1 to clause m1 to_code
    (λ b. elim b.0.1 [ inl x ↦ fin.new 0 (omega arith) x | inr y ↦ fin.new 1 (omega arith) y ]) (inr (refl, refl)) (λ literal d x. inl x) (λ literal d x. x) in
    let three_watched : three.watched ≡ old.watched = m.linked.watched ∙ m.watched ∙ u.watched in
    let three_atoms : three.atoms ≡ old.atoms = m.linked.atoms ∙ two_atoms in
    let to_final : (literal d : ℕ) → B2 literal d → WatchingBelow three.records three.watched literal d = λ literal d b. elim b [
      | inl x ↦ let low = x.0.0 in elim (cases_eq d clause) [
        | inl e ↦
            let w : WatchedBy row literal = subst (λ (n : ℕ). WatchedBy (row_at old.records n) literal) e x.0.1 in
            let ne : literal ≢ from = λ y. x.1 y e in
            let apart = sides_differ row literal from w f.watching.1 ne in
            let lt1 = side-lt row literal in
            let here = fin.kept (side_of row literal) lt1 apart ∙ at_side row literal w in
            (omega (arith, low, three_watched), subst (λ (n : ℕ). WatchedBy (row_at three.records n) literal) (sym e) (watched_at (row_at three.records clause) literal (side_of row literal) lt1 here))
        | inr ne ↦ (
          omega (arith, low, three_watched),
          elim x.0.1 [
            | inl y ↦ inl (other_cell old one two three previous clause from index d 3 f m ne (omega arith) ∙ y)
            | inr z ↦ inr (other_cell old one two three previous clause from index d 4 f m ne (omega arith) ∙ z)
          ],
        )
      ]
      | inr y ↦ let low = f.watching.0 in (let e = y.1 in omega (arith, low, three_watched, e), subst (λ (n : ℕ). WatchedBy (row_at three.records n) literal) (sym y.1) (watched_at (row_at three.records clause) literal side (side-lt row from) (fin.moved_in ∙ sym y.0)))
    ] in
    let from_final : (literal d : ℕ) → WatchingBelow three.records three.watched literal d → B2 literal d = λ literal d b. let low = b.0 in elim (cases_eq d clause) [
      | inl e ↦
          let w : WatchedBy (row_at three.records clause) literal = subst (λ (n : ℕ). WatchedBy (row_at three.records n) literal) e b.1 in
          let ne : literal ≢ from = λ x. elim w [ inl y ↦ fin.left (y ∙ x) | inr z ↦ fin.right (z ∙ x) ] in
          elim (cases_eq literal to) [
            | inl x ↦ inr (x, e)
            | inr not_to ↦ inl ((omega (arith, low, three_watched), subst (λ (n : ℕ). WatchedBy (row_at old.records n) literal) (sym e) (back_to_old row (row_at three.records clause) from to literal (side-lt row from) fin.moved_in fin.kept w not_to)), λ x. absurd (ne x))
          ]
      | inr ne ↦ inl (
        (
          omega (arith, low, three_watched),
          elim b.1 [
            | inl y ↦ inl (sym (other_cell old one two three previous clause from index d 3 f m ne (omega arith)) ∙ y)
            | inr z ↦ inr (sym (other_cell old one two three previous clause from index d 4 f m ne (omega arith)) ∙ z)
          ],
        ),
        λ x. ne,
      )
    ] in
    record {
      threads = subst (λ (n : ℕ). AreThreads n three.heads.items three.records (consed lists1 to clause)) (sym m.linked.atoms) t3;
      members = subst (λ (n : ℕ). ListsOf (WatchingBelow three.records three.watched) n (consed lists1 to clause)) (sym three_atoms) (ListsOf-iff B2 (WatchingBelow three.records three.watched) old.atoms (consed lists1 to clause) to_final from_final m2);
    }
  where
    -- a literal at one of the two watched places is watched
    watched_at : (row : List ℕ) (literal side : ℕ) → side < 2 → get_or row (3 + side) 0 ≡ literal → WatchedBy row literal
    watched_at row literal side lt e = elim (cases_eq side 0) [
      | inl z ↦ inl (sym (ap (λ (n : ℕ). get_or row (3 + n) 0) z) ∙ e)
      | inr nz ↦ let one_is : side ≡ 1 = omega (arith, lt, nz) in inr (sym (ap (λ (n : ℕ). get_or row (3 + n) 0) one_is) ∙ e)
    ]

    -- a watch that isn't the new one was one before
    back_to_old : (old new : List ℕ) (from to literal : ℕ) → side_of old from < 2 → get_or new (3 + side_of old from) 0 ≡ to → ((side : ℕ) → side < 2 → side ≢ side_of old from → get_or new (3 + side) 0 ≡ get_or old (3 + side) 0) → WatchedBy new literal → literal ≢ to → WatchedBy old literal
    back_to_old old new from to literal lt here kept w ne = elim w [
      | inl a ↦ elim (cases_eq 0 (side_of old from)) [
        | inl z ↦ absurd (ne (sym a ∙ ap (λ (n : ℕ). get_or new (3 + n) 0) z ∙ here))
        | inr nz ↦ inl (sym (kept 0 (omega arith) nz) ∙ a)
      ]
      | inr b ↦ elim (cases_eq 1 (side_of old from)) [
        | inl z ↦ absurd (ne (sym b ∙ ap (λ (n : ℕ). get_or new (3 + n) 0) z ∙ here))
        | inr nz ↦ inr (sym (kept 1 (omega arith) nz) ∙ b)
      ]
    ]

-- what the clauses are after the move
pub moved_clauses : (old one two three : Watches) (previous clause from index : ℕ) → MoveFrom old previous clause from index → MoveSteps old one two three previous clause from index → MovesWatch old three clause from index
moved_clauses old one two three previous clause from index f m =
    let u = m.unlinked in
    let h = move_row old previous clause from index f in
    let row = row_at old.records clause in
    let row1 = row_at one.records clause in
    let side = side_of row from in
    let lt2 = side-lt row from in
    let same = side_before old one previous clause from index f u in
    let size = size_before old one previous clause from index f u in
    let two_le = f.unwatched in let i = f.within in
    let r1 = swap_of old one previous clause from index f u in
    record {
      atoms = m.linked.atoms ∙ m.atoms ∙ u.atoms;
      watched = m.linked.watched ∙ m.watched ∙ u.watched;
      as_many = length_linked two three clause side m.linked ∙ length_two old one two three previous clause from index m;
      others = λ number ne. ap literals_of (three_other old one two three previous clause from index number m ne) ∙ unlinked_literals old one previous clause from number u f.before;
      swapped = three_literals old one two three previous clause from index f m ∙ ap literals_of (two_row old one two three previous clause from index f m)
          ∙ ap (λ (n : ℕ). literals_of (swap row1 (3 + n) (3 + index))) same
          ∙ literals_of-swap old.atoms row1 side index r1 (omega (arith, lt2, size, i, two_le)) (omega (arith, size, i))
          ∙ ap (λ (x : List ℕ). swap x side index) (unlinked_literals old one previous clause from clause u f.before);
      moved_in = (final_row old one two three previous clause from index f m).moved_in;
      kept = (final_row old one two three previous clause from index f m).kept;
      watches = λ number literal ne.
          let side_same = side_of-same (row_at old.records number) (row_at three.records number) literal (other_cell old one two three previous clause from index number 3 f m ne (omega arith)) in
          let lt1 = side-lt (row_at old.records number) literal in
          ap (λ (n : ℕ). get_or (row_at three.records number) (4 - n) 0) side_same ∙ other_cell old one two three previous clause from index number (4 - side_of (row_at old.records number) literal) f m ne (omega (arith, lt1));
    }
