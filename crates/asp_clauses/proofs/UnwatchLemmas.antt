-- A clause that is watched no more.
use Rattle.std.proofs.Common.{◌≡◌, ◌≢◌, ℕ, ◌+◌, ◌-◌, ◌*◌, ◌<◌, ◌≤◌, ◌⊎◌, List, [], length, get_or, map, refl, sym, ◌∙◌, ap, arith, inl, inr, subst}
use Rattle.std.proofs.lemmas.Bool.{cases_lt, cases_eq}
use Rattle.std.proofs.lemmas.List.{get_or_past, length-map, get_or-map, same_lists}
use Rattle.asp_clauses.specs.declared.watches.Watches.{Watches}
use Rattle.asp_clauses.specs.Records.{row_at, literals_of, end}
use Rattle.asp_clauses.specs.Watches.{link_of, WatchingBelow, AreThreads, ListsOf, IsStore, IsListed, AreWatches}
use Rattle.asp_clauses.specs.Visits.{removed, IsAt, Unlinks, WatchesOneMore, IsUnlinked}
use Rattle.asp_clauses.proofs.ListLemmas.{removed_other, ListsOf-remove}
use Rattle.asp_clauses.proofs.WatchLemmas.{watch_code, watches_differ}
use Rattle.asp_clauses.proofs.MoveLemmas.{ListsOf-iff}
use Rattle.asp_clauses.proofs.UnlinkLemmas.{length_unlinked, unlinked_cells, unlinked_literals, IsStore-unlinked, AreThreads-unlinked}
use Rattle.asp_clauses.proofs.WalkLemmas.{list_few}

-- where a walk along a list stands that seeks a clause: it has passed only others
pub record IsSeeking (lists : ℕ → List ℕ) (literal clause previous other turn : ℕ) : Type 0 where
  pub here : other ≡ get_or (lists literal) turn end
  pub first : turn ≡ 0 → previous ≡ end
  pub later : (j : ℕ) → turn ≡ j + 1 → get_or (lists literal) j end ≡ previous
  pub passed : (i : ℕ) → i < turn → get_or (lists literal) i end ≢ clause

pub IsSeeking-start : (watches : Watches) (lists : ℕ → List ℕ) (literal clause other : ℕ) → IsListed watches lists → literal ≤ 2 * watches.atoms → other ≡ get_or watches.heads.items literal 0 → IsSeeking lists literal clause end other 0
IsSeeking-start watches lists literal clause other l code read = record {
  here = read ∙ l.threads.head literal code;
  first = λ z. refl;
  later = λ j e. absurd (omega (arith, e));
  passed = λ i h. absurd (omega (arith, h));
}

-- it finds the clause
pub seek_found : (lists : ℕ → List ℕ) (literal clause previous other turn : ℕ) → IsSeeking lists literal clause previous other turn → other ≡ clause → clause < end → IsAt lists literal turn previous clause
seek_found lists literal clause previous other turn s e h = record {
  within = elim (cases_lt turn (length (lists literal))) [
    | inl lt ↦ lt
    | inr ge ↦ let past = s.here ∙ get_or_past (lists literal) turn end ge in absurd (omega (arith, past, e, h))
  ];
  here = sym s.here ∙ e;
  first = s.first;
  later = s.later;
}

-- it hasn't come to the clause yet
pub seek_ahead : (watches : Watches) (lists : ℕ → List ℕ) (literal clause previous other turn : ℕ) → IsListed watches lists → literal ≤ 2 * watches.atoms → WatchingBelow watches.records watches.watched literal clause →
    IsSeeking lists literal clause previous other turn → turn < length (lists literal)
seek_ahead watches lists literal clause previous other turn l code w s =
    let p = l.members.complete literal clause code w in
    let in_list = p.1 in
    elim (cases_lt p.0 turn) [
      | inl lt ↦ absurd (s.passed p.0 lt p.2)
      | inr ge ↦ omega (arith, ge, in_list)
    ]

pub seek_row : (watches : Watches) (lists : ℕ → List ℕ) (literal clause previous other turn : ℕ) → IsStore watches → IsListed watches lists → literal ≤ 2 * watches.atoms → WatchingBelow watches.records watches.watched literal clause →
    IsSeeking lists literal clause previous other turn → other < length watches.records
seek_row watches lists literal clause previous other turn store l code w s =
    let lt = seek_ahead watches lists literal clause previous other turn l code w s in
    let sound = (l.members.sound literal turn code lt).0 in
    let here = s.here in let most = store.watched in
    omega (arith, sound, here, most)

pub IsSeeking-more : (watches : Watches) (lists : ℕ → List ℕ) (literal clause previous other next turn : ℕ) → IsListed watches lists → literal ≤ 2 * watches.atoms → WatchingBelow watches.records watches.watched literal clause →
    IsSeeking lists literal clause previous other turn → other ≢ clause → next ≡ link_of watches.records literal other → IsSeeking lists literal clause other next (turn + 1)
IsSeeking-more watches lists literal clause previous other next turn l code w s ne next_is =
    let lt = seek_ahead watches lists literal clause previous other turn l code w s in
    record {
      here = next_is ∙ ap (link_of watches.records literal) s.here ∙ l.threads.link literal turn code lt;
      first = λ z. absurd (omega (arith, z));
      later = λ j e. let same : j ≡ turn = omega (arith, e) in ap (λ (n : ℕ). get_or (lists literal) n end) same ∙ sym s.here;
      passed = λ i h e. elim (cases_lt i turn) [
        | inl low ↦ s.passed i low e
        | inr high ↦ let same : i ≡ turn = omega (arith, h, high) in ne (s.here ∙ sym (ap (λ (n : ℕ). get_or (lists literal) n end) same) ∙ e)
      ];
    }

-- what was before it
pub seek_before : (watches : Watches) (lists : ℕ → List ℕ) (literal clause previous other turn : ℕ) → IsStore watches → IsListed watches lists → literal ≤ 2 * watches.atoms → WatchingBelow watches.records watches.watched literal clause →
    IsSeeking lists literal clause previous other turn → (previous < length watches.records) ⊎ (previous ≡ end)
seek_before watches lists literal clause previous other turn store l code w s =
    let lt = seek_ahead watches lists literal clause previous other turn l code w s in
    elim (cases_eq turn 0) [
      | inl z ↦ inr (s.first z)
      | inr nz ↦
          let one : turn ≡ (turn - 1) + 1 = omega (arith, nz) in
          let sound = (l.members.sound literal (turn - 1) code (omega (arith, lt, nz))).0 in
          let is = s.later (turn - 1) one in let most = store.watched in
          inl (omega (arith, sound, is, most))
    ]

-- a list is no longer than there are clauses, so the clause is found
pub seek_ends : (watches : Watches) (lists : ℕ → List ℕ) (literal clause previous other turn : ℕ) → IsStore watches → IsListed watches lists → literal ≤ 2 * watches.atoms → WatchingBelow watches.records watches.watched literal clause →
    IsSeeking lists literal clause previous other turn → length watches.records ≤ turn → ⊥
seek_ends watches lists literal clause previous other turn store l code w s h =
    let lt = seek_ahead watches lists literal clause previous other turn l code w s in
    let few = list_few watches lists literal store l code in let most = store.watched in
    omega (arith, lt, few, most, h)

-- ---- a clause is taken out of both its lists
pub record Unwatches (old one two new : Watches) (clause first second p q : ℕ) : Type 0 where
  pub last : clause + 1 ≡ old.watched
  pub first_is : first ≡ get_or (row_at old.records clause) 3 0
  pub second_is : second ≡ get_or (row_at old.records clause) 4 0
  pub unlinked : Unlinks old one p clause first
  pub unlinked_too : Unlinks one two q clause second
  pub p_within : (p < length old.records) ⊎ (p ≡ end)
  pub q_within : (q < length old.records) ⊎ (q ≡ end)
  pub p_before : (lists : ℕ → List ℕ) → IsListed old lists → (k : ℕ) × IsAt lists first k p clause
  pub q_before : (lists : ℕ → List ℕ) → IsListed old lists → (k : ℕ) × IsAt lists second k q clause
  pub new_is : (let w : Watches = record two { watched = clause } in new ≡ w)

q_later : (old one two new : Watches) (clause first second p q : ℕ) → Unwatches old one two new clause first second p q → (q < length one.records) ⊎ (q ≡ end)
q_later old one two new clause first second p q u =
    let l = length_unlinked old one p clause first u.unlinked in elim u.q_within [ inl lt ↦ inl (omega (arith, lt, l)) | inr e ↦ inr e ]

two_cells : (old one two new : Watches) (clause first second p q other j : ℕ) → Unwatches old one two new clause first second p q → 3 ≤ j → get_or (row_at two.records other) j 0 ≡ get_or (row_at old.records other) j 0
two_cells old one two new clause first second p q other j u h =
    unlinked_cells one two q clause second other j u.unlinked_too (q_later old one two new clause first second p q u) h ∙ unlinked_cells old one p clause first other j u.unlinked u.p_within h

two_literals : (old one two new : Watches) (clause first second p q other : ℕ) → Unwatches old one two new clause first second p q → literals_of (row_at two.records other) ≡ literals_of (row_at old.records other)
two_literals old one two new clause first second p q other u =
    unlinked_literals one two q clause second other u.unlinked_too (q_later old one two new clause first second p q u) ∙ unlinked_literals old one p clause first other u.unlinked u.p_within

length_unwatched : (old one two new : Watches) (clause first second p q : ℕ) → Unwatches old one two new clause first second p q → length two.records ≡ length old.records
length_unwatched old one two new clause first second p q u = length_unlinked one two q clause second u.unlinked_too ∙ length_unlinked old one p clause first u.unlinked

-- the same clauses
pub clauses_unwatched : (old one two new : Watches) (clause first second p q : ℕ) → Unwatches old one two new clause first second p q → map literals_of two.records ≡ map literals_of old.records
clauses_unwatched old one two new clause first second p q u =
    let l = length_unwatched old one two new clause first second p q u in
    let a = length-map two.records literals_of in let b = length-map old.records literals_of in
    same_lists (map literals_of two.records) (map literals_of old.records) (omega (arith, l, a, b)) (λ k d h.
    let in_two : k < length two.records = omega (arith, a, h) in
    get_or-map literals_of two.records k [] d in_two ∙ two_literals old one two new clause first second p q k u ∙ sym (get_or-map literals_of old.records k [] d (omega (arith, in_two, l))))

pub unwatched_one : (old one two new : Watches) (clause first second p q : ℕ) → Unwatches old one two new clause first second p q → WatchesOneMore new old
unwatched_one old one two new clause first second p q u =
    let records = ap (λ (w : Watches). w.records) u.new_is in
    record {
      atoms = sym (ap (λ (w : Watches). w.atoms) u.new_is ∙ u.unlinked_too.atoms ∙ u.unlinked.atoms);
      watched = sym u.last ∙ sym (ap (λ (w : Watches). w.watched + 1) u.new_is);
      clauses = sym (ap (map literals_of) records ∙ clauses_unwatched old one two new clause first second p q u);
      as_many = sym (ap length records ∙ length_unwatched old one two new clause first second p q u);
    }

-- the store, where fewer clauses are watched
IsStore-fewer : (watches : Watches) (fewer : ℕ) → IsStore watches → fewer ≤ watches.watched → (let w : Watches = record watches { watched = fewer } in IsStore w)
IsStore-fewer watches fewer s h = record {
  few_atoms = s.few_atoms;
  heads = s.heads;
  few = s.few;
  watched = let m = s.watched in omega (arith, m, h);
  records = s.records;
  not_empty = λ clause l. s.not_empty clause (omega (arith, l, h));
}

pub AreWatches-unwatched : (old one two new : Watches) (clause first second p q : ℕ) → AreWatches old → Unwatches old one two new clause first second p q → AreWatches new
AreWatches-unwatched old one two new clause first second p q w u =
    let s = w.store in let lists = w.listed.0 in let l = w.listed.1 in
    let last = u.last in let most = s.watched in
    let in_rows : clause < length old.records = omega (arith, last, most) in
    let row = row_at old.records clause in
    let r = s.records clause in_rows in
    let some = s.not_empty clause (omega (arith, last)) in
    let differ : first ≢ second = λ e. watches_differ old.atoms row r some (sym u.first_is ∙ e ∙ u.second_is) in
    let code0 : first ≤ 2 * old.atoms = let c = watch_code old.atoms row 0 r (omega arith) in let e = u.first_is in omega (arith, c, e) in
    let code1 : second ≤ 2 * old.atoms = let c = watch_code old.atoms row 1 r (omega arith) in let e = u.second_is in omega (arith, c, e) in
    let s1 = IsStore-unlinked old one p clause first s u.unlinked u.p_within in
    let q_in = q_later old one two new clause first second p q u in
    let s2 = IsStore-unlinked one two q clause second s1 u.unlinked_too q_in in
    let at0 = u.p_before lists l in let at1 = u.q_before lists l in
    let k0 = at0.0 in let k1 = at1.0 in
    let lists1 = removed lists first k0 in let lists2 = removed lists1 second k1 in
    let B0 = WatchingBelow old.records old.watched in
    let B1 : ℕ → ℕ → Type 0 = λ literal d. B0 literal d × (literal ≡ first → d ≢ clause) in
    let B2 : ℕ → ℕ → Type 0 = λ literal d. B1 literal d × (literal ≡ second → d ≢ clause) in
    let m1 : ListsOf B1 old.atoms lists1 = ListsOf-remove B0 B1 old.atoms lists first k0 l.members code0 at0.1.within
    (λ literal d b. (b.0, λ e x. b.1 e (x ∙ at0.1.here))) (λ literal d b n. (b, λ e x. n e (x ∙ sym at0.1.here))) in
    let t1 = AreThreads-unlinked B0 old one lists first k0 p clause s u.unlinked code0 at0.1 l.threads l.members (λ literal d b. b) in
    let there : lists1 second ≡ lists second = removed_other lists first k0 second (λ e. differ (sym e)) in
    let at2 : IsAt lists1 second k1 q clause = record {
      within = subst (λ (xs : List ℕ). k1 < length xs) (sym there) at1.1.within;
      here = ap (λ (xs : List ℕ). get_or xs k1 end) there ∙ at1.1.here;
      first = at1.1.first;
      later = λ j e. ap (λ (xs : List ℕ). get_or xs j end) there ∙ at1.1.later j e;
    } in
    let m2 : ListsOf B2 old.atoms lists2 = ListsOf-remove B1 B2 old.atoms lists1 second k1 m1 code1 at2.within
    (λ literal d b. (b.0, λ e x. b.1 e (x ∙ at2.here))) (λ literal d b n. (b, λ e x. n e (x ∙ sym at2.here))) in
    let atoms1 = u.unlinked.atoms in let watched1 = u.unlinked.watched in
    let watching1 : (literal d : ℕ) → B1 literal d → WatchingBelow one.records one.watched literal d = λ literal d b.
    let low = b.0.0 in (
      omega (arith, low, watched1),
      elim b.0.1 [
        | inl x ↦ inl (unlinked_cells old one p clause first d 3 u.unlinked u.p_within (omega arith) ∙ x)
        | inr y ↦ inr (unlinked_cells old one p clause first d 4 u.unlinked u.p_within (omega arith) ∙ y)
      ],
    ) in
    let t1' : AreThreads one.atoms one.heads.items one.records lists1 = subst (λ (n : ℕ). AreThreads n one.heads.items one.records lists1) (sym atoms1) t1 in
    let m1' : ListsOf B1 one.atoms lists1 = subst (λ (n : ℕ). ListsOf B1 n lists1) (sym atoms1) m1 in
    let t2 = AreThreads-unlinked B1 one two lists1 second k1 q clause s1 u.unlinked_too (subst (λ (n : ℕ). second ≤ 2 * n) (sym atoms1) code1) at2 t1' m1' watching1 in
    let atoms2 : two.atoms ≡ one.atoms = u.unlinked_too.atoms in
    let watched2 : two.watched ≡ old.watched = u.unlinked_too.watched ∙ watched1 in
    let final : Watches = record two { watched = clause } in
    let cells : (d j : ℕ) → 3 ≤ j → get_or (row_at two.records d) j 0 ≡ get_or (row_at old.records d) j 0 = λ d j h. two_cells old one two new clause first second p q d j u h in
    let to : (literal d : ℕ) → B2 literal d → WatchingBelow two.records clause literal d = λ literal d b.
    let low = b.0.0.0 in
    let ne : d ≢ clause = λ e. elim b.0.0.1 [
      | inl x ↦ b.0.1 (sym x ∙ ap (λ (n : ℕ). get_or (row_at old.records n) 3 0) e ∙ sym u.first_is) e
      | inr y ↦ b.1 (sym y ∙ ap (λ (n : ℕ). get_or (row_at old.records n) 4 0) e ∙ sym u.second_is) e
    ] in (
      omega (arith, low, ne, last),
      elim b.0.0.1 [ inl x ↦ inl (cells d 3 (omega arith) ∙ x) | inr y ↦ inr (cells d 4 (omega arith) ∙ y) ],
    ) in
    let from : (literal d : ℕ) → WatchingBelow two.records clause literal d → B2 literal d = λ literal d b.
    let low = b.0 in
    let ne : d ≢ clause = omega (arith, low) in
    (((omega (arith, low, last), elim b.1 [ inl x ↦ inl (sym (cells d 3 (omega arith)) ∙ x) | inr y ↦ inr (sym (cells d 4 (omega arith)) ∙ y) ]), λ e. ne), λ e. ne) in
    let done : AreWatches final = record {
      store = IsStore-fewer two clause s2 (omega (arith, watched2, last));
      listed = (
        lists2,
        record {
          threads = subst (λ (n : ℕ). AreThreads n two.heads.items two.records lists2) (sym atoms2) t2;
          members = subst (λ (n : ℕ). ListsOf (WatchingBelow two.records clause) n lists2) (sym (atoms2 ∙ atoms1)) (ListsOf-iff B2 (WatchingBelow two.records clause) old.atoms lists2 to from m2);
        },
      );
    } in
    subst AreWatches (sym u.new_is) done

-- ---- one clause after the other is watched no more
pub record IsUnwatching (old now : Watches) : Type 0 where
  pub watches : AreWatches now
  pub unlinked : IsUnlinked old now

pub IsUnwatching-none : (watches : Watches) → AreWatches watches → IsUnwatching watches watches
IsUnwatching-none watches w = record { watches = w; unlinked = record { atoms = refl; watched = omega arith; clauses = refl; as_many = refl } }

pub IsUnwatching-more : (old now new : Watches) → IsUnwatching old now → AreWatches new → WatchesOneMore new now → IsUnwatching old new
IsUnwatching-more old now new i w o = record {
  watches = w;
  unlinked = record {
    atoms = sym o.atoms ∙ i.unlinked.atoms;
    watched = let a = o.watched in let b = i.unlinked.watched in omega (arith, a, b);
    clauses = sym o.clauses ∙ i.unlinked.clauses;
    as_many = sym o.as_many ∙ i.unlinked.as_many;
  };
}
