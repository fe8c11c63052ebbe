-- Lists of watching clauses through the steps of the code.
use Rattle.std.proofs.Common.{◌≡◌, ◌≢◌, ℕ, ◌+◌, ◌*◌, ◌<◌, ◌≤◌, ◌⊎◌, List, [], length, get_or, set, map, refl, sym, ◌∙◌, ap, arith, inl, inr, subst, length-set}
use Rattle.std.proofs.lemmas.Bool.{cases_eq}
use Rattle.std.proofs.lemmas.List.{get_or-set_same, get_or-set_other, map-set, set-get_or}
use Rattle.asp_clauses.specs.declared.watches.Watches.{Watches}
use Rattle.asp_clauses.specs.Records.{row_at, literals_of, end}
use Rattle.asp_clauses.specs.Watches.{IsRecord, side_of, link_of, WatchingBelow, AreThreads, ListsOf, IsStore, IsListed}
use Rattle.asp_clauses.specs.Visits.{consed, Links}
use Rattle.asp_clauses.proofs.StoreLemmas.{clause_at-book}
use Rattle.asp_clauses.proofs.ListLemmas.{Threaded-cons, ListsOf-cons}
use Rattle.asp_clauses.proofs.WatchLemmas.{row_size, watch_code, watches_differ, side_first, side_second, side_of-same, literals_of-link, link_cell, IsRecord-link, row_set_same, row_set_other}

-- a store where one row changes
pub IsStore-row : (old new : Watches) (clause : ℕ) (row : List ℕ) → IsStore old → new.atoms ≡ old.atoms → new.watched ≡ old.watched → length new.heads.items ≡ length old.heads.items → new.records ≡ set old.records clause row → clause < length old.records → IsRecord old.atoms row → get_or row 0 0 ≡ get_or (row_at old.records clause) 0 0 → IsStore new
IsStore-row old new clause row s atoms watched heads records h r size =
    let len : length new.records ≡ length old.records = ap length records ∙ length-set old.records clause row in
    let here : row_at new.records clause ≡ row = ap (λ (x : List (List ℕ)). row_at x clause) records ∙ row_set_same old.records clause row h in
    let there : (other : ℕ) → other ≢ clause → row_at new.records other ≡ row_at old.records other = λ other ne. ap (λ (x : List (List ℕ)). row_at x other) records ∙ row_set_other old.records clause other row ne in
    record {
      few_atoms = omega (arith, s.few_atoms, atoms);
      heads = heads ∙ s.heads ∙ ap (λ (n : ℕ). 2 * n + 1) (sym atoms);
      few = omega (arith, s.few, len);
      watched = omega (arith, s.watched, len, watched);
      records = λ other l. subst (λ (n : ℕ). IsRecord n (row_at new.records other)) (sym atoms) (elim (cases_eq other clause) [
        | inl e ↦ subst (λ (x : ℕ). IsRecord old.atoms (row_at new.records x)) (sym e) (subst (IsRecord old.atoms) (sym here) r)
        | inr ne ↦ subst (IsRecord old.atoms) (sym (there other ne)) (s.records other (omega (arith, len, l)))
      ]);
      not_empty = λ other l. elim (cases_eq other clause) [
        | inl e ↦ let o = s.not_empty other (omega (arith, watched, l)) in subst (λ (n : ℕ). 0 < n) (sym size ∙ sym (ap (λ (x : List ℕ). get_or x 0 0) here) ∙ sym (ap (λ (x : ℕ). get_or (row_at new.records x) 0 0) e)) (subst (λ (x : ℕ). 0 < get_or (row_at old.records x) 0 0) e o)
        | inr ne ↦ subst (λ (x : List ℕ). 0 < get_or x 0 0) (sym (there other ne)) (s.not_empty other (omega (arith, watched, l)))
      ];
    }

pub link_size : (row : List ℕ) (i v : ℕ) → 0 < i → get_or (set row i v) 0 0 ≡ get_or row 0 0
link_size row i v h = let ne : 0 ≢ i = omega arith in get_or-set_other row i 0 v 0 ne

pub IsStore-linked : (old new : Watches) (clause side : ℕ) → IsStore old → Links old new clause side → clause < length old.records → side < 2 → IsStore new
IsStore-linked old new clause side s l h lt =
    let row = row_at old.records clause in
    let v = get_or old.heads.items (get_or row (3 + side) 0) 0 in
    IsStore-row old new clause (set row (1 + side) v) s l.atoms l.watched (ap length l.heads ∙ length-set old.heads.items (get_or row (3 + side) 0) clause) l.records h
    (IsRecord-link old.atoms row (1 + side) v (omega arith) (omega arith) (s.records clause h)) (link_size row (1 + side) v (omega arith))

-- the clause at the front of the list of one of its watches
pub AreThreads-linked : (old new : Watches) (lists : ℕ → List ℕ) (clause side to : ℕ) → IsStore old → Links old new clause side → clause < length old.records → side < 2 →
    get_or (row_at old.records clause) (3 + side) 0 ≡ to → side_of (row_at old.records clause) to ≡ side →
    ((literal k : ℕ) → literal ≤ 2 * old.atoms → k < length (lists literal) → get_or (lists literal) k end ≡ clause → side_of (row_at old.records clause) literal ≢ side) →
    AreThreads old.atoms old.heads.items old.records lists → AreThreads old.atoms new.heads.items new.records (consed lists to clause)
AreThreads-linked old new lists clause side to s l h lt to_is side_is free t =
    let row = row_at old.records clause in
    let v = get_or old.heads.items to 0 in
    let new_row = set row (1 + side) v in
    let r = s.records clause h in
    let size = row_size old.atoms row r in
    let code : to ≤ 2 * old.atoms = let c = watch_code old.atoms row side r lt in omega (arith, c, to_is) in
    let heads_is : new.heads.items ≡ set old.heads.items to clause = l.heads ∙ ap (λ (n : ℕ). set old.heads.items n clause) to_is in
    let rows_is : new.records ≡ set old.records clause new_row = l.records ∙ ap (λ (n : ℕ). set old.records clause (set row (1 + side) (get_or old.heads.items n 0))) to_is in
    let here : row_at new.records clause ≡ new_row = ap (λ (x : List (List ℕ)). row_at x clause) rows_is ∙ row_set_same old.records clause new_row h in
    let same_side : (literal : ℕ) → side_of new_row literal ≡ side_of row literal = λ literal. side_of-same row new_row literal (link_cell row (1 + side) v 3 (omega arith) (omega arith)) in
    let done = Threaded-cons (2 * old.atoms) (λ literal. get_or old.heads.items literal 0) (λ literal. get_or new.heads.items literal 0) (link_of old.records) (link_of new.records) lists to clause
    (record { first = t.head; later = t.link }) code
    (ap (λ (x : List ℕ). get_or x to 0) heads_is ∙ get_or-set_same old.heads.items to clause 0 (omega (arith, s.heads, code)))
    (λ literal a ne. ap (λ (x : List ℕ). get_or x literal 0) heads_is ∙ get_or-set_other old.heads.items to literal clause 0 ne)
    (ap (λ (x : List ℕ). get_or x (1 + side_of x to) 0) here ∙ ap (λ (n : ℕ). get_or new_row (1 + n) 0) (same_side to ∙ side_is) ∙ get_or-set_same row (1 + side) v 0 (omega (arith, size.0)))
    (λ literal k a kl. elim (cases_eq (get_or (lists literal) k end) clause) [
      | inl e ↦
          let f = free literal k a kl e in
          let ne : 1 + side_of row literal ≢ 1 + side = omega (arith, f) in
          ap (link_of new.records literal) e ∙ ap (λ (x : List ℕ). get_or x (1 + side_of x literal) 0) here ∙ ap (λ (n : ℕ). get_or new_row (1 + n) 0) (same_side literal)
          ∙ get_or-set_other row (1 + side) (1 + side_of row literal) v 0 ne ∙ sym (ap (link_of old.records literal) e)
      | inr ne ↦ ap (λ (x : List ℕ). get_or x (1 + side_of x literal) 0) (ap (λ (x : List (List ℕ)). row_at x (get_or (lists literal) k end)) rows_is ∙ row_set_other old.records clause (get_or (lists literal) k end) new_row ne)
    ]) in
    record { head = done.first; link = done.later }

-- the same clauses by another name
pub ListsOf-iff : (Belongs Belongs' : ℕ → ℕ → Type 0) (atoms : ℕ) (lists : ℕ → List ℕ) → ((literal c : ℕ) → Belongs literal c → Belongs' literal c) → ((literal c : ℕ) → Belongs' literal c → Belongs literal c) → ListsOf Belongs atoms lists → ListsOf Belongs' atoms lists
ListsOf-iff Belongs Belongs' atoms lists to from l = record {
  sound = λ literal k h lt. to literal (get_or (lists literal) k end) (l.sound literal k h lt);
  complete = λ literal c h b. l.complete literal c h (from literal c b);
  distinct = l.distinct;
}

-- ---- a new clause gets both its watches
pub record TwoLinks (old one two : Watches) : Type 0 where
  pub first : Links old one old.watched 0
  pub second : Links one two old.watched 1

both_rows : (old one two : Watches) → TwoLinks old one two → old.watched < length old.records → (row : List ℕ) → row ≡ row_at old.records old.watched →
    ((get_or (row_at one.records old.watched) 3 0 ≡ get_or row 3 0) × (get_or (row_at one.records old.watched) 4 0 ≡ get_or row 4 0)) × ((get_or (row_at two.records old.watched) 3 0 ≡ get_or row 3 0) × (get_or (row_at two.records old.watched) 4 0 ≡ get_or row 4 0))
both_rows old one two b h row e =
    let c = old.watched in
    let old_row = row_at old.records c in
    let v = get_or old.heads.items (get_or old_row 3 0) 0 in
    let here : row_at one.records c ≡ set old_row 1 v = ap (λ (x : List (List ℕ)). row_at x c) b.first.records ∙ row_set_same old.records c (set old_row 1 v) h in
    let len : length one.records ≡ length old.records = ap length b.first.records ∙ length-set old.records c (set old_row 1 v) in
    let row1 = row_at one.records c in
    let u = get_or one.heads.items (get_or row1 4 0) 0 in
    let there : row_at two.records c ≡ set row1 2 u = ap (λ (x : List (List ℕ)). row_at x c) b.second.records ∙ row_set_same one.records c (set row1 2 u) (omega (arith, len, h)) in
    let cell1 : (j : ℕ) → 3 ≤ j → get_or row1 j 0 ≡ get_or row j 0 = λ j g. ap (λ (x : List ℕ). get_or x j 0) here ∙ link_cell old_row 1 v j (omega arith) g ∙ sym (ap (λ (x : List ℕ). get_or x j 0) e) in
    let cell2 : (j : ℕ) → 3 ≤ j → get_or (row_at two.records c) j 0 ≡ get_or row j 0 = λ j g. ap (λ (x : List ℕ). get_or x j 0) there ∙ link_cell row1 2 u j (omega arith) g ∙ cell1 j g in
    ((cell1 3 (omega arith), cell1 4 (omega arith)), (cell2 3 (omega arith), cell2 4 (omega arith)))

-- rows of other clauses
other_rows : (old one two : Watches) → TwoLinks old one two → (other : ℕ) → other ≢ old.watched → (row_at one.records other ≡ row_at old.records other) × (row_at two.records other ≡ row_at old.records other)
other_rows old one two b other ne =
    let c = old.watched in
    let a : row_at one.records other ≡ row_at old.records other = ap (λ (x : List (List ℕ)). row_at x other) b.first.records ∙ row_set_other old.records c other (set (row_at old.records c) (1 + 0) (get_or old.heads.items (get_or (row_at old.records c) (3 + 0) 0) 0)) ne in
    (a, ap (λ (x : List (List ℕ)). row_at x other) b.second.records ∙ row_set_other one.records c other (set (row_at one.records c) (1 + 1) (get_or one.heads.items (get_or (row_at one.records c) (3 + 1) 0) 0)) ne ∙ a)

pub IsListed-watched : (old one two new : Watches) (lists : ℕ → List ℕ) → IsStore old → IsStore one → TwoLinks old one two → old.watched < length old.records → 0 < get_or (row_at old.records old.watched) 0 0 → IsListed old lists →
    new.atoms ≡ two.atoms → new.heads.items ≡ two.heads.items → new.records ≡ two.records → new.watched ≡ old.watched + 1 →
    IsListed new (consed (consed lists (get_or (row_at old.records old.watched) 3 0) old.watched) (get_or (row_at old.records old.watched) 4 0) old.watched)
IsListed-watched old one two new lists s s1 b h some l atoms heads records watched =
    let c = old.watched in
    let row = row_at old.records c in
    let w0 = get_or row 3 0 in let w1 = get_or row 4 0 in
    let r = s.records c h in
    let differ = watches_differ old.atoms row r some in
    let code0 = watch_code old.atoms row 0 r (omega arith) in
    let code1 = watch_code old.atoms row 1 r (omega arith) in
    let rows = both_rows old one two b h row refl in
    let row1 = row_at one.records c in
    let lists1 = consed lists w0 c in
    let atoms1 = b.first.atoms in
    let len1 : length one.records ≡ length old.records = ap length b.first.records ∙ length-set old.records c (set row 1 (get_or old.heads.items w0 0)) in
    let absent : (literal k : ℕ) → literal ≤ 2 * old.atoms → k < length (lists literal) → get_or (lists literal) k end ≡ c → ⊥ = λ literal k a kl e. let q = l.members.sound literal k a kl in omega (arith, q.0, e) in
    let t1 : AreThreads old.atoms one.heads.items one.records lists1 = AreThreads-linked old one lists c 0 w0 s b.first h (omega arith) refl (side_first row w0 refl) (λ literal k a kl e. absurd (absent literal k a kl e)) l.threads in
    let B0 = WatchingBelow old.records old.watched in
    let B1 : ℕ → ℕ → Type 0 = λ literal d. B0 literal d ⊎ ((literal ≡ w0) × (d ≡ c)) in
    let m1 : ListsOf B1 old.atoms lists1 = ListsOf-cons B0 B1 old.atoms lists w0 c l.members code0 (λ x. omega (arith, x.0)) (inr (refl, refl)) (λ literal d x. inl x) (λ literal d x. x) in
    let side1 : side_of row1 w0 ≡ 0 = side_first row1 w0 rows.0.0 in
    let free1 : (literal k : ℕ) → literal ≤ 2 * old.atoms → k < length (lists1 literal) → get_or (lists1 literal) k end ≡ c → side_of row1 literal ≢ 1 = λ literal k a kl e.
    elim (m1.sound literal k a kl) [
      | inl x ↦ absurd (omega (arith, x.0, e))
      | inr y ↦ let z = ap (side_of row1) y.0 in omega (arith, z, side1)
    ] in
    let to_is : get_or row1 (3 + 1) 0 ≡ w1 = rows.0.1 in
    let t1' : AreThreads one.atoms one.heads.items one.records lists1 = subst (λ (n : ℕ). AreThreads n one.heads.items one.records lists1) (sym atoms1) t1 in
    let t2 : AreThreads one.atoms two.heads.items two.records (consed lists1 w1 c) = AreThreads-linked one two lists1 c 1 w1 s1 b.second (omega (arith, h, len1)) (omega arith) to_is
    (side_second row1 w1 (λ e. differ (sym rows.0.0 ∙ e))) (λ literal k a kl e. free1 literal k (subst (λ (n : ℕ). literal ≤ 2 * n) atoms1 a) kl e) t1' in
    let B2 : ℕ → ℕ → Type 0 = λ literal d. B1 literal d ⊎ ((literal ≡ w1) × (d ≡ c)) in
    let m2 : ListsOf B2 old.atoms (consed lists1 w1 c) = ListsOf-cons B1 B2 old.atoms lists1 w1 c m1 code1 (λ x. elim x [ inl y ↦ omega (arith, y.0) | inr z ↦ differ (sym z.0) ]) (inr (refl, refl)) (λ literal d x. inl x) (λ literal d x. x) in
    let same_row : (d : ℕ) → d ≢ c → row_at new.records d ≡ row_at old.records d = λ d ne. ap (λ (x : List (List ℕ)). row_at x d) records ∙ (other_rows old one two b d ne).1 in
    let Watches : List ℕ → ℕ → Type 0 = λ x literal. (get_or x 3 0 ≡ literal) ⊎ (get_or x 4 0 ≡ literal) in
    let to : (literal d : ℕ) → B2 literal d → WatchingBelow new.records new.watched literal d = λ literal d x. elim x [
      | inl y ↦ elim y [
        | inl z ↦ let ne : d ≢ c = omega (arith, z.0) in (omega (arith, z.0, watched), subst (λ (q : List ℕ). Watches q literal) (sym (same_row d ne)) z.1)
        | inr z ↦ (omega (arith, z.1, watched), inl (ap (λ (q : ℕ). get_or (row_at new.records q) 3 0) z.1 ∙ ap (λ (q : List (List ℕ)). get_or (row_at q c) 3 0) records ∙ rows.1.0 ∙ sym z.0))
      ]
      | inr z ↦ (omega (arith, z.1, watched), inr (ap (λ (q : ℕ). get_or (row_at new.records q) 4 0) z.1 ∙ ap (λ (q : List (List ℕ)). get_or (row_at q c) 4 0) records ∙ rows.1.1 ∙ sym z.0))
    ] in
    let from : (literal d : ℕ) → WatchingBelow new.records new.watched literal d → B2 literal d = λ literal d x. elim (cases_eq d c) [
      | inl e ↦ elim x.1 [
        | inl y ↦ inl (inr (sym (sym (ap (λ (q : ℕ). get_or (row_at new.records q) 3 0) e ∙ ap (λ (q : List (List ℕ)). get_or (row_at q c) 3 0) records ∙ rows.1.0) ∙ y), e))
        | inr y ↦ inr (sym (sym (ap (λ (q : ℕ). get_or (row_at new.records q) 4 0) e ∙ ap (λ (q : List (List ℕ)). get_or (row_at q c) 4 0) records ∙ rows.1.1) ∙ y), e)
      ]
      | inr ne ↦ inl (inl (omega (arith, x.0, watched, ne), subst (λ (q : List ℕ). Watches q literal) (same_row d ne) x.1))
    ] in
    let atoms_is : new.atoms ≡ one.atoms = atoms ∙ b.second.atoms in
    let atoms_old : new.atoms ≡ old.atoms = atoms_is ∙ atoms1 in
    record {
      threads = subst (λ (n : ℕ). AreThreads n new.heads.items new.records (consed lists1 w1 c)) (sym atoms_is)
          (subst (λ (x : List ℕ). AreThreads one.atoms x new.records (consed lists1 w1 c)) (sym heads) (subst (λ (x : List (List ℕ)). AreThreads one.atoms two.heads.items x (consed lists1 w1 c)) (sym records) t2));
      members = subst (λ (n : ℕ). ListsOf (WatchingBelow new.records new.watched) n (consed lists1 w1 c)) (sym atoms_old) (ListsOf-iff B2 (WatchingBelow new.records new.watched) old.atoms (consed lists1 w1 c) to from m2);
    }

-- a link changes no clause
pub clauses_linked : (old new : Watches) (clause side : ℕ) → Links old new clause side → clause < length old.records → side < 2 → map literals_of new.records ≡ map literals_of old.records
clauses_linked old new clause side l h lt =
    let row = row_at old.records clause in
    let v = get_or old.heads.items (get_or row (3 + side) 0) 0 in
    ap (map literals_of) l.records ∙ map-set literals_of old.records clause (set row (1 + side) v)
    ∙ ap (set (map literals_of old.records) clause) (literals_of-link row (1 + side) v (omega arith) (omega arith) ∙ sym (clause_at-book old.records clause h))
    ∙ set-get_or (map literals_of old.records) clause []

pub length_linked : (old new : Watches) (clause side : ℕ) → Links old new clause side → length new.records ≡ length old.records
length_linked old new clause side l = ap length l.records ∙ length-set old.records clause (set (row_at old.records clause) (1 + side) (get_or old.heads.items (get_or (row_at old.records clause) (3 + side) 0) 0))

-- one more clause is watched
pub IsStore-watched : (old new : Watches) → IsStore old → new.atoms ≡ old.atoms → new.heads.items ≡ old.heads.items → new.records ≡ old.records → new.watched ≡ old.watched + 1 → old.watched < length old.records → 0 < get_or (row_at old.records old.watched) 0 0 → IsStore new
IsStore-watched old new s atoms heads records watched h some = record {
  few_atoms = omega (arith, s.few_atoms, atoms);
  heads = ap length heads ∙ s.heads ∙ ap (λ (n : ℕ). 2 * n + 1) (sym atoms);
  few = let l = ap length records in omega (arith, s.few, l);
  watched = let l = ap length records in omega (arith, l, watched, h);
  records = λ clause l. subst (λ (n : ℕ). IsRecord n (row_at new.records clause)) (sym atoms) (subst (λ (x : List (List ℕ)). IsRecord old.atoms (row_at x clause)) (sym records) (s.records clause (let e = ap length records in omega (arith, e, l))));
  not_empty = λ clause l. subst (λ (x : List (List ℕ)). 0 < get_or (row_at x clause) 0 0) (sym records) (elim (cases_eq clause old.watched) [
    | inl e ↦ subst (λ (n : ℕ). 0 < get_or (row_at old.records n) 0 0) (sym e) some
    | inr ne ↦ s.not_empty clause (omega (arith, l, watched, ne))
  ]);
}

pub both_rows_sizes : (old one two : Watches) → TwoLinks old one two → old.watched < length old.records → get_or (row_at two.records old.watched) 0 0 ≡ get_or (row_at old.records old.watched) 0 0
both_rows_sizes old one two b h =
    let c = old.watched in
    let row = row_at old.records c in
    let v = get_or old.heads.items (get_or row (3 + 0) 0) 0 in
    let row1 = row_at one.records c in
    let u = get_or one.heads.items (get_or row1 (3 + 1) 0) 0 in
    let len = length_linked old one c 0 b.first in
    ap (λ (x : List (List ℕ)). get_or (row_at x c) 0 0) b.second.records ∙ ap (λ (x : List ℕ). get_or x 0 0) (row_set_same one.records c (set row1 (1 + 1) u) (omega (arith, len, h))) ∙ link_size row1 (1 + 1) u (omega arith)
    ∙ ap (λ (x : List (List ℕ)). get_or (row_at x c) 0 0) b.first.records ∙ ap (λ (x : List ℕ). get_or x 0 0) (row_set_same old.records c (set row (1 + 0) v) h) ∙ link_size row (1 + 0) v (omega arith)
