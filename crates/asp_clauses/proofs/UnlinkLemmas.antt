-- A watch that moves from one literal to another.
use Rattle.std.proofs.Common.{◌≡◌, ◌≢◌, ℕ, ◌+◌, ◌-◌, ◌*◌, ◌/◌, ◌^◌, ◌<◌, ◌≤◌, ◌⊎◌, List, length, get_or, set, sym, ◌∙◌, ap, arith, inl, inr, subst, length-set}
use Rattle.std.specs.List.{swap}
use Rattle.std.proofs.lemmas.Bool.{cases_lt, cases_eq}
use Rattle.std.proofs.lemmas.List.{get_or-set_same, get_or-set_other}
use Rattle.asp_clauses.specs.declared.watches.Watches.{Watches}
use Rattle.asp_clauses.specs.Records.{row_at, literals_of, end}
use Rattle.asp_clauses.specs.Watches.{IsRecord, side_of, link_of, Watching, WatchingBelow, AreThreads, ListsOf, IsStore}
use Rattle.asp_clauses.specs.Visits.{removed, IsAt, Links, Unlinks}
use Rattle.asp_clauses.proofs.ListLemmas.{Threaded, Threaded-remove}
use Rattle.asp_clauses.proofs.WatchLemmas.{swap_first, swap_other, row_size, length_literals, literal_in_row, watches_differ, side_first, side_second, side_cases, side-lt, at_side, sides_differ, side_of-same, literals_of-link, link_cell, IsRecord-link, IsRecord-swap, row_set_same, row_set_other}
use Rattle.asp_clauses.proofs.MoveLemmas.{IsStore-row, IsStore-linked, link_size}

-- the row before the one that was taken out, and all others
unlinked_row : (old new : Watches) (previous clause literal : ℕ) → Unlinks old new previous clause literal → previous ≢ end → previous < length old.records →
    row_at new.records previous ≡ set (row_at old.records previous) (1 + side_of (row_at old.records previous) literal) (link_of old.records literal clause)
unlinked_row old new previous clause literal u ne h =
    let row = set (row_at old.records previous) (1 + side_of (row_at old.records previous) literal) (link_of old.records literal clause) in
    ap (λ (x : List (List ℕ)). row_at x previous) (u.later_records ne) ∙ row_set_same old.records previous row h

pub unlinked_others : (old new : Watches) (previous clause literal other : ℕ) → Unlinks old new previous clause literal → other ≢ previous → row_at new.records other ≡ row_at old.records other
unlinked_others old new previous clause literal other u ne = elim (cases_eq previous end) [
  | inl e ↦ ap (λ (x : List (List ℕ)). row_at x other) (u.first_records e)
  | inr not_end ↦ ap (λ (x : List (List ℕ)). row_at x other) (u.later_records not_end) ∙ row_set_other old.records previous other (set (row_at old.records previous) (1 + side_of (row_at old.records previous) literal) (link_of old.records literal clause)) ne
]

pub length_unlinked : (old new : Watches) (previous clause literal : ℕ) → Unlinks old new previous clause literal → length new.records ≡ length old.records
length_unlinked old new previous clause literal u = elim (cases_eq previous end) [
  | inl e ↦ ap length (u.first_records e)
  | inr not_end ↦ ap length (u.later_records not_end) ∙ length-set old.records previous (set (row_at old.records previous) (1 + side_of (row_at old.records previous) literal) (link_of old.records literal clause))
]

-- no row changes but in its links
pub unlinked_cells : (old new : Watches) (previous clause literal other j : ℕ) → Unlinks old new previous clause literal → (previous < length old.records) ⊎ (previous ≡ end) → 3 ≤ j → get_or (row_at new.records other) j 0 ≡ get_or (row_at old.records other) j 0
unlinked_cells old new previous clause literal other j u p h = elim (cases_eq other previous) [
  | inl e ↦ elim (cases_eq previous end) [
    | inl x ↦ ap (λ (r : List (List ℕ)). get_or (row_at r other) j 0) (u.first_records x)
    | inr not_end ↦ elim p [
      | inl lt ↦
          let row = row_at old.records previous in
          let lt2 = side-lt row literal in
          ap (λ (n : ℕ). get_or (row_at new.records n) j 0) e ∙ ap (λ (r : List ℕ). get_or r j 0) (unlinked_row old new previous clause literal u not_end lt)
          ∙ link_cell row (1 + side_of row literal) (link_of old.records literal clause) j (omega (arith, lt2)) h ∙ sym (ap (λ (n : ℕ). get_or (row_at old.records n) j 0) e)
      | inr x ↦ absurd (not_end x)
    ]
  ]
  | inr ne ↦ ap (λ (r : List ℕ). get_or r j 0) (unlinked_others old new previous clause literal other u ne)
]

pub unlinked_literals : (old new : Watches) (previous clause literal other : ℕ) → Unlinks old new previous clause literal → (previous < length old.records) ⊎ (previous ≡ end) → literals_of (row_at new.records other) ≡ literals_of (row_at old.records other)
unlinked_literals old new previous clause literal other u p = elim (cases_eq other previous) [
  | inl e ↦ elim (cases_eq previous end) [
    | inl x ↦ ap (λ (r : List (List ℕ)). literals_of (row_at r other)) (u.first_records x)
    | inr not_end ↦ elim p [
      | inl lt ↦
          let row = row_at old.records previous in
          let lt2 = side-lt row literal in
          ap (λ (n : ℕ). literals_of (row_at new.records n)) e ∙ ap literals_of (unlinked_row old new previous clause literal u not_end lt)
          ∙ literals_of-link row (1 + side_of row literal) (link_of old.records literal clause) (omega arith) (omega (arith, lt2)) ∙ sym (ap (λ (n : ℕ). literals_of (row_at old.records n)) e)
      | inr x ↦ absurd (not_end x)
    ]
  ]
  | inr ne ↦ ap literals_of (unlinked_others old new previous clause literal other u ne)
]

pub IsStore-unlinked : (old new : Watches) (previous clause literal : ℕ) → IsStore old → Unlinks old new previous clause literal → (previous < length old.records) ⊎ (previous ≡ end) → IsStore new
IsStore-unlinked old new previous clause literal s u p = elim (cases_eq previous end) [
  | inl e ↦
      let heads = ap length (u.first_heads e) ∙ length-set old.heads.items literal (link_of old.records literal clause) in
      record {
        few_atoms = let a = u.atoms in omega (arith, s.few_atoms, a);
        heads = heads ∙ s.heads ∙ ap (λ (n : ℕ). 2 * n + 1) (sym u.atoms);
        few = subst (λ (r : List (List ℕ)). length r < 2 ^ 32) (sym (u.first_records e)) s.few;
        watched = subst (λ (n : ℕ). n ≤ length new.records) (sym u.watched) (subst (λ (r : List (List ℕ)). old.watched ≤ length r) (sym (u.first_records e)) s.watched);
        records = λ other l. subst (λ (n : ℕ). IsRecord n (row_at new.records other)) (sym u.atoms) (subst (λ (r : List (List ℕ)). IsRecord old.atoms (row_at r other)) (sym (u.first_records e)) (s.records other (subst (λ (r : List (List ℕ)). other < length r) (u.first_records e) l)));
        not_empty = λ other l. subst (λ (r : List (List ℕ)). 0 < get_or (row_at r other) 0 0) (sym (u.first_records e)) (s.not_empty other (subst (λ (n : ℕ). other < n) u.watched l));
      }
  | inr not_end ↦ elim p [
    | inl lt ↦
        let row = row_at old.records previous in
        let i = 1 + side_of row literal in
        let v = link_of old.records literal clause in
        let lt2 = side-lt row literal in
        IsStore-row old new previous (set row i v) s u.atoms u.watched (ap length (u.later_heads not_end)) (u.later_records not_end) lt
        (IsRecord-link old.atoms row i v (omega arith) (omega (arith, lt2)) (s.records previous lt)) (link_size row i v (omega arith))
    | inr x ↦ absurd (not_end x)
  ]
]

-- the lists without the clause
pub AreThreads-unlinked : (Belongs : ℕ → ℕ → Type 0) (old new : Watches) (lists : ℕ → List ℕ) (from k previous clause : ℕ) → IsStore old → Unlinks old new previous clause from → from ≤ 2 * old.atoms → IsAt lists from k previous clause →
    AreThreads old.atoms old.heads.items old.records lists → ListsOf Belongs old.atoms lists → ((literal d : ℕ) → Belongs literal d → WatchingBelow old.records old.watched literal d) → AreThreads old.atoms new.heads.items new.records (removed lists from k)
AreThreads-unlinked Belongs old new lists from k previous clause s u code at t m watches =
    let sound_at : (literal i : ℕ) → literal ≤ 2 * old.atoms → i < length (lists literal) → WatchingBelow old.records old.watched literal (get_or (lists literal) i end) = λ literal i a il. watches literal (get_or (lists literal) i end) (m.sound literal i a il) in
    let v = link_of old.records from clause in
    let few = s.few in let watched = s.watched in
    let done : Threaded (2 * old.atoms) (λ literal. get_or new.heads.items literal 0) (link_of new.records) (removed lists from k) = elim (cases_eq k 0) [
      | inl z ↦
          let e = at.first z in
          let heads_is = u.first_heads e in
          let rows_is = u.first_records e in
          Threaded-remove (2 * old.atoms) (λ literal. get_or old.heads.items literal 0) (λ literal. get_or new.heads.items literal 0) (link_of old.records) (link_of new.records) lists from k
          (record { first = t.head; later = t.link }) code at.within
          (λ _. ap (λ (x : List ℕ). get_or x from 0) heads_is ∙ get_or-set_same old.heads.items from v 0 (omega (arith, s.heads, code)) ∙ sym (ap (link_of old.records from) at.here))
          (λ pos. absurd (omega (arith, pos, z)))
          (λ literal a ne. ap (λ (x : List ℕ). get_or x literal 0) heads_is ∙ get_or-set_other old.heads.items from literal v 0 ne)
          (λ i e'. absurd (omega (arith, z, e')))
          (λ literal i a il c. ap (λ (x : List (List ℕ)). link_of x literal (get_or (lists literal) i end)) rows_is)
      | inr nz ↦
          let one : k ≡ (k - 1) + 1 = omega (arith, nz) in
          let before = at.later (k - 1) one in
          let in_list : k - 1 < length (lists from) = let w = at.within in omega (arith, w, nz) in
          let sound = sound_at from (k - 1) code in_list in
          let prev_lt : previous < old.watched = subst (λ (n : ℕ). n < old.watched) before sound.0 in
          let prev_row : previous < length old.records = omega (arith, prev_lt, watched) in
          let not_end : previous ≢ end = omega (arith, prev_row, few) in
          let row = row_at old.records previous in
          let i0 = 1 + side_of row from in
          let lt2 = side-lt row from in
          let r = s.records previous prev_row in
          let size = row_size old.atoms row r in
          let here = unlinked_row old new previous clause from u not_end prev_row in
          let new_row = set row i0 v in
          let same_side : (literal : ℕ) → side_of new_row literal ≡ side_of row literal = λ literal. side_of-same row new_row literal (link_cell row i0 v 3 (omega (arith, lt2)) (omega arith)) in
          let prev_watching : (get_or row 3 0 ≡ from) ⊎ (get_or row 4 0 ≡ from) = subst (λ (n : ℕ). Watching old.records from n) before sound.1 in
          let heads_is = u.later_heads not_end in
          Threaded-remove (2 * old.atoms) (λ literal. get_or old.heads.items literal 0) (λ literal. get_or new.heads.items literal 0) (link_of old.records) (link_of new.records) lists from k
          (record { first = t.head; later = t.link }) code at.within
          (λ z. absurd (nz z))
          (λ pos. ap (λ (x : List ℕ). get_or x from 0) heads_is)
          (λ literal a ne. ap (λ (x : List ℕ). get_or x literal 0) heads_is)
          (λ i e.
          let same_i : i ≡ k - 1 = omega (arith, e) in
          ap (λ (n : ℕ). link_of new.records from (get_or (lists from) n end)) same_i ∙ ap (link_of new.records from) before
          ∙ ap (λ (x : List ℕ). get_or x (1 + side_of x from) 0) here ∙ ap (λ (n : ℕ). get_or new_row (1 + n) 0) (same_side from) ∙ get_or-set_same row i0 v 0 (omega (arith, size.0, lt2))
          ∙ sym (ap (link_of old.records from) at.here))
          (λ literal i a il c. elim (cases_eq (get_or (lists literal) i end) previous) [
            | inl e ↦ elim (cases_eq literal from) [
              | inl same ↦
                  let q = c same in
                  let il' : i < length (lists from) = subst (λ (n : ℕ). i < length (lists n)) same il in
                  let there : get_or (lists from) i end ≡ previous = sym (ap (λ (n : ℕ). get_or (lists n) i end) same) ∙ e in
                  absurd (elim (cases_lt i (k - 1)) [
                    | inl lower ↦ m.distinct from i (k - 1) code lower in_list (there ∙ sym before)
                    | inr upper ↦ m.distinct from (k - 1) i code (omega (arith, q.0, upper, nz)) il' (before ∙ sym there)
                  ])
              | inr other ↦
                  let watching : (get_or row 3 0 ≡ literal) ⊎ (get_or row 4 0 ≡ literal) = subst (λ (n : ℕ). Watching old.records literal n) e (sound_at literal i a il).1 in
                  let ne = sides_differ row literal from watching prev_watching other in
                  let apart : 1 + side_of row literal ≢ i0 = omega (arith, ne) in
                  ap (link_of new.records literal) e ∙ ap (λ (x : List ℕ). get_or x (1 + side_of x literal) 0) here ∙ ap (λ (n : ℕ). get_or new_row (1 + n) 0) (same_side literal)
                  ∙ get_or-set_other row i0 (1 + side_of row literal) v 0 apart ∙ sym (ap (link_of old.records literal) e)
            ]
            | inr ne ↦ ap (λ (x : List ℕ). get_or x (1 + side_of x literal) 0) (unlinked_others old new previous clause from (get_or (lists literal) i end) u ne)
          ])
    ] in
    record { head = done.first; link = done.later }

-- ---- the row of the clause whose literals change places
pub record SwapFacts (row : List ℕ) (from to index : ℕ) : Type 0 where
  pub size : get_or (swap row (3 + side_of row from) (3 + index)) 0 0 ≡ get_or row 0 0
  pub moved_in : get_or (swap row (3 + side_of row from) (3 + index)) (3 + side_of row from) 0 ≡ to
  pub kept : (side : ℕ) → side < 2 → side ≢ side_of row from → get_or (swap row (3 + side_of row from) (3 + index)) (3 + side) 0 ≡ get_or row (3 + side) 0
  pub links : (i : ℕ) → i < 3 → get_or (swap row (3 + side_of row from) (3 + index)) i 0 ≡ get_or row i 0
  pub new : (side : ℕ) → side < 2 → get_or row (3 + side) 0 ≢ to
  pub left : get_or (swap row (3 + side_of row from) (3 + index)) 3 0 ≢ from
  pub right : get_or (swap row (3 + side_of row from) (3 + index)) 4 0 ≢ from
  pub to_side : side_of (swap row (3 + side_of row from) (3 + index)) to ≡ side_of row from

pub swap_facts : (atoms : ℕ) (row : List ℕ) (from to index : ℕ) → IsRecord atoms row → (get_or row 3 0 ≡ from) ⊎ (get_or row 4 0 ≡ from) → 2 ≤ index → index < get_or row 0 0 → get_or row (3 + index) 0 ≡ to → SwapFacts row from to index
swap_facts atoms row from to index r w two h to_is =
    let size = row_size atoms row r in
    let lt2 = side-lt row from in
    let side = side_of row from in
    let hi : 3 + side < length row = omega (arith, size.0, lt2) in
    let hj : 3 + index < length row = omega (arith, size.1, h) in
    let new_row = swap row (3 + side) (3 + index) in
    let lit = length_literals atoms row r in
    let apart : (i : ℕ) → i < 2 → get_or row (3 + i) 0 ≢ to = λ i il e.
    r.clause.distinct i index (omega (arith, il, two)) (omega (arith, lit, h))
    (ap (λ (x : ℕ). x / 2) (literal_in_row row i (omega (arith, il, two, h)) ∙ e ∙ sym to_is ∙ sym (literal_in_row row index h))) in
    let moved_in : get_or new_row (3 + side) 0 ≡ to = swap_first row (3 + side) (3 + index) hi hj ∙ to_is in
    let kept : (i : ℕ) → i < 2 → i ≢ side → get_or new_row (3 + i) 0 ≡ get_or row (3 + i) 0 = λ i il ne. swap_other row (3 + side) (3 + index) (3 + i) hi hj (omega (arith, ne)) (omega (arith, il, two)) in
    let from_is : get_or row (3 + side) 0 ≡ from = at_side row from w in
    let to_from : to ≢ from = λ e. apart side lt2 (from_is ∙ sym e) in
    let differ : get_or row 3 0 ≢ get_or row 4 0 = watches_differ atoms row r (omega (arith, h)) in
    let at0 : get_or new_row 3 0 ≢ from = elim (side_cases row from) [
      | inl a ↦ λ e. to_from (sym moved_in ∙ ap (λ (n : ℕ). get_or new_row (3 + n) 0) a.1 ∙ e)
      | inr b ↦ λ e. b.0 (sym (kept 0 (omega arith) (let x = b.1 in omega (arith, x))) ∙ e)
    ] in
    let at1 : get_or new_row 4 0 ≢ from = elim (side_cases row from) [
      | inl a ↦ λ e. differ (a.0 ∙ sym e ∙ kept 1 (omega arith) (let x = a.1 in omega (arith, x)))
      | inr b ↦ λ e. to_from (sym moved_in ∙ ap (λ (n : ℕ). get_or new_row (3 + n) 0) b.1 ∙ e)
    ] in
    record {
      size = swap_other row (3 + side) (3 + index) 0 hi hj (omega arith) (omega arith);
      moved_in = moved_in;
      kept = kept;
      links = λ i il. swap_other row (3 + side) (3 + index) i hi hj (omega (arith, il)) (omega (arith, il));
      new = apart;
      left = at0;
      right = at1;
      to_side = elim (side_cases row from) [
        | inl a ↦ side_first new_row to (sym (ap (λ (n : ℕ). get_or new_row (3 + n) 0) a.1) ∙ moved_in) ∙ sym a.1
        | inr b ↦ side_second new_row to (λ e. apart 0 (omega arith) (sym (kept 0 (omega arith) (let x = b.1 in omega (arith, x))) ∙ e)) ∙ sym b.1
      ];
    }

-- ---- the three steps together
pub record MoveSteps (old one two three : Watches) (previous clause from index : ℕ) : Type 0 where
  pub unlinked : Unlinks old one previous clause from
  pub atoms : two.atoms ≡ one.atoms
  pub watched : two.watched ≡ one.watched
  pub heads : two.heads.items ≡ one.heads.items
  pub swapped : two.records ≡ set one.records clause (swap (row_at one.records clause) (3 + side_of (row_at old.records clause) from) (3 + index))
  pub linked : Links two three clause (side_of (row_at old.records clause) from)

-- what holds before
pub record MoveFrom (old : Watches) (previous clause from index : ℕ) : Type 0 where
  pub store : IsStore old
  pub watching : WatchingBelow old.records old.watched from clause
  pub code : from ≤ 2 * old.atoms
  pub before : (previous < length old.records) ⊎ (previous ≡ end)
  pub unwatched : 2 ≤ index
  pub within : index < get_or (row_at old.records clause) 0 0

pub move_row : (old : Watches) (previous clause from index : ℕ) → MoveFrom old previous clause from index → clause < length old.records
move_row old previous clause from index f = let a = f.watching.0 in let b = f.store.watched in omega (arith, a, b)

-- the clause is not the one before it: where it is in the list after it
pub swap_of : (old one : Watches) (previous clause from index : ℕ) → MoveFrom old previous clause from index → Unlinks old one previous clause from → IsRecord old.atoms (row_at one.records clause)
swap_of old one previous clause from index f u =
    let s1 = IsStore-unlinked old one previous clause from f.store u f.before in
    let len = length_unlinked old one previous clause from u in
    let h = move_row old previous clause from index f in
    subst (λ (n : ℕ). IsRecord n (row_at one.records clause)) u.atoms (s1.records clause (omega (arith, len, h)))

-- cells of the clause's row before the exchange
pub cells_before : (old one : Watches) (previous clause from index j : ℕ) → MoveFrom old previous clause from index → Unlinks old one previous clause from → 3 ≤ j → get_or (row_at one.records clause) j 0 ≡ get_or (row_at old.records clause) j 0
cells_before old one previous clause from index j f u h = unlinked_cells old one previous clause from clause j u f.before h

pub size_before : (old one : Watches) (previous clause from index : ℕ) → MoveFrom old previous clause from index → Unlinks old one previous clause from → get_or (row_at one.records clause) 0 0 ≡ get_or (row_at old.records clause) 0 0
size_before old one previous clause from index f u =
    let h = move_row old previous clause from index f in
    let r1 = swap_of old one previous clause from index f u in
    let r0 = f.store.records clause h in
    sym (length_literals old.atoms (row_at one.records clause) r1) ∙ ap length (unlinked_literals old one previous clause from clause u f.before) ∙ length_literals old.atoms (row_at old.records clause) r0

pub swap_known : (old one : Watches) (previous clause from index : ℕ) → MoveFrom old previous clause from index → Unlinks old one previous clause from → SwapFacts (row_at one.records clause) from (get_or (row_at old.records clause) (3 + index) 0) index
swap_known old one previous clause from index f u =
    let size = size_before old one previous clause from index f u in
    let c3 = cells_before old one previous clause from index 3 f u (omega arith) in
    let c4 = cells_before old one previous clause from index 4 f u (omega arith) in
    swap_facts old.atoms (row_at one.records clause) from (get_or (row_at old.records clause) (3 + index) 0) index (swap_of old one previous clause from index f u)
    (elim f.watching.1 [ inl a ↦ inl (c3 ∙ a) | inr b ↦ inr (c4 ∙ b) ]) f.unwatched (let i = f.within in omega (arith, size, i)) (cells_before old one previous clause from index (3 + index) f u (omega arith))

pub side_before : (old one : Watches) (previous clause from index : ℕ) → MoveFrom old previous clause from index → Unlinks old one previous clause from → side_of (row_at one.records clause) from ≡ side_of (row_at old.records clause) from
side_before old one previous clause from index f u = side_of-same (row_at old.records clause) (row_at one.records clause) from (cells_before old one previous clause from index 3 f u (omega arith))

pub IsStore-exchanged : (old one two : Watches) (previous clause from index : ℕ) → MoveFrom old previous clause from index → Unlinks old one previous clause from →
    two.atoms ≡ one.atoms → two.watched ≡ one.watched → two.heads.items ≡ one.heads.items → two.records ≡ set one.records clause (swap (row_at one.records clause) (3 + side_of (row_at old.records clause) from) (3 + index)) → IsStore two
IsStore-exchanged old one two previous clause from index f u atoms watched heads swapped =
    let s1 = IsStore-unlinked old one previous clause from f.store u f.before in
    let len = length_unlinked old one previous clause from u in
    let h = move_row old previous clause from index f in
    let row = row_at one.records clause in
    let side = side_of (row_at old.records clause) from in
    let lt2 = side-lt (row_at old.records clause) from in
    let r1 = swap_of old one previous clause from index f u in
    let size = size_before old one previous clause from index f u in
    let i = f.within in let two_le = f.unwatched in
    let k = swap_known old one previous clause from index f u in
    let same = side_before old one previous clause from index f u in
    IsStore-row one two clause (swap row (3 + side) (3 + index)) s1 atoms watched (ap length heads) swapped (omega (arith, len, h))
    (subst (λ (n : ℕ). IsRecord n (swap row (3 + side) (3 + index))) (sym u.atoms) (IsRecord-swap old.atoms row side index r1 (omega (arith, lt2, size, i, two_le)) (omega (arith, size, i))))
    (ap (λ (n : ℕ). get_or (swap row (3 + n) (3 + index)) 0 0) (sym same) ∙ k.size)

pub IsStore-swapped : (old one two three : Watches) (previous clause from index : ℕ) → MoveFrom old previous clause from index → MoveSteps old one two three previous clause from index → IsStore two
IsStore-swapped old one two three previous clause from index f m = IsStore-exchanged old one two previous clause from index f m.unlinked m.atoms m.watched m.heads m.swapped

pub IsStore-moved : (old one two three : Watches) (previous clause from index : ℕ) → MoveFrom old previous clause from index → MoveSteps old one two three previous clause from index → IsStore three
IsStore-moved old one two three previous clause from index f m =
    let len = length_unlinked old one previous clause from m.unlinked in
    let len2 = ap length m.swapped ∙ length-set one.records clause (swap (row_at one.records clause) (3 + side_of (row_at old.records clause) from) (3 + index)) in
    let h = move_row old previous clause from index f in
    IsStore-linked two three clause (side_of (row_at old.records clause) from) (IsStore-swapped old one two three previous clause from index f m) m.linked (omega (arith, len, len2, h)) (side-lt (row_at old.records clause) from)
