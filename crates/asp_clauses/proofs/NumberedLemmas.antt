-- Records that get their new numbers in place of a link.
use Rattle.std.proofs.Common.{◌≡◌, ◌≢◌, ℕ, ◌+◌, ◌*◌, ◌^◌, ◌<◌, ◌≤◌, Bool, true, false, not, cond, List, [], length, get_or, map, set, refl, sym, ◌∙◌, ap, arith, inl, inr, subst, length-set, replicate}
use Rattle.std.proofs.lemmas.List.{length-map, get_or-map, get_or-set_same, same_lists, map-set, set-get_or, get_or_default, get_or-replicate, length-replicate}
use Rattle.std.proofs.lemmas.List.Sums.{count_by_more_yes, count_by_more_no}
use Rattle.std.proofs.lemmas.Bool.{cases_eq, cases_lt, cases_Bool, ne_eqb, eq-eqb}
use Rattle.asp_clauses.specs.declared.watches.Watches.{Watches}
use Rattle.asp_clauses.specs.Records.{row_at, literals_of, end, AreLong}
use Rattle.asp_clauses.specs.Watches.{IsRecord, IsStore, WatchingBelow, AreThreads, ListsOf, AreWatches}
use Rattle.asp_clauses.specs.Visits.{WatchesOneMore}
use Rattle.asp_clauses.specs.Kept.{kept, new_number, mark_of, itself, is_kept, number_in, label, from_on, AreNumbered}
use Rattle.asp_clauses.proofs.KeptLemmas.{new_number-le, from_old, from_before, new_number-le-kept, length-kept-le}
use Rattle.asp_clauses.proofs.FrontLemmas.{AllMarked, count_front, kept_at_front, length-from_on, marked_before, marked_after}
use Rattle.asp_clauses.proofs.StoreLemmas.{clause_at-book, ListsOf-same, AreThreads-same}
use Rattle.asp_clauses.proofs.WatchLemmas.{row_size, length_literals, literals_of-link, IsRecord-link, row_set_same, row_set_other}
use Rattle.asp_clauses.proofs.MoveLemmas.{IsStore-row, link_size}

-- no record has its number yet
pub AreNumbered-none : (watches : Watches) (marks : List Bool) (from : ℕ) → IsStore watches → AreNumbered watches watches marks from from
AreNumbered-none watches marks from s = record { same = refl; store = s; as_many = refl; clauses = refl; before = λ clause l. refl; numbers = λ clause g h. absurd (omega arith) }

-- one more record gets its number
pub AreNumbered-more : (old now new : Watches) (marks : List Bool) (from done v : ℕ) → AreNumbered old now marks from done → from ≤ done → done < length old.records → v ≡ label marks done →
    (let w : Watches = record now { records = set now.records done (set (row_at now.records done) 1 v) } in new ≡ w) → AreNumbered old new marks from (done + 1)
AreNumbered-more old now new marks from done v a up h is new_is =
    let row = row_at now.records done in
    let rows = set now.records done (set row 1 v) in
    let in_now : done < length now.records = let m = a.as_many in omega (arith, m, h) in
    let w : Watches = record now { records = rows } in
    let r = a.store.records done in_now in
    let w_is : AreNumbered old w marks from (done + 1) = record {
      same = ap (λ (x : Watches). let y : Watches = record x { records = rows } in y) a.same;
      store = IsStore-row now w done (set row 1 v) a.store refl refl refl refl in_now (IsRecord-link now.atoms row 1 v (omega arith) (omega arith) r) (link_size row 1 v (omega arith));
      as_many = length-set now.records done (set row 1 v) ∙ a.as_many;
      clauses = map-set literals_of now.records done (set row 1 v)
          ∙ ap (set (map literals_of now.records) done) (literals_of-link row 1 v (omega arith) (omega arith) ∙ sym (clause_at-book now.records done in_now))
          ∙ set-get_or (map literals_of now.records) done [] ∙ a.clauses;
      before = λ clause l. let ne : clause ≢ done = omega (arith, l, up) in row_set_other now.records done clause (set row 1 v) ne ∙ a.before clause l;
      numbers = λ clause g l. elim (cases_eq clause done) [
        | inl e ↦ ap (number_in rows) e ∙ ap (λ (x : List ℕ). get_or x 1 0) (row_set_same now.records done (set row 1 v) in_now) ∙ get_or-set_same row 1 v 0 (let s = row_size now.atoms row r in omega (arith, s.0)) ∙ is ∙ ap (label marks) (sym e)
        | inr ne ↦ ap (λ (x : List ℕ). get_or x 1 0) (row_set_other now.records done clause (set row 1 v) ne) ∙ a.numbers clause g (omega (arith, l, ne))
      ];
    } in
    subst (λ (x : Watches). AreNumbered old x marks from (done + 1)) (sym new_is) w_is

label_yes : (marks : List Bool) (clause : ℕ) → mark_of marks clause ≡ true → label marks clause ≡ new_number marks clause
label_yes marks clause e = ap (λ (b : Bool). cond b (new_number marks clause) end) e

label_no : (marks : List Bool) (clause : ℕ) → mark_of marks clause ≡ false → label marks clause ≡ end
label_no marks clause e = ap (λ (b : Bool). cond b (new_number marks clause) end) e

-- what the loop writes, and the number after it
pub written_is : (marks : List Bool) (done next : ℕ) (stays : Bool) → stays ≡ mark_of marks done → next ≡ new_number marks done → cond stays next end ≡ label marks done
written_is marks done next stays s n = ap (λ (b : Bool). cond b next end) s ∙ ap (λ (x : ℕ). cond (mark_of marks done) x end) n

pub next_is : (marks : List Bool) (done next : ℕ) (stays : Bool) → done < length marks → stays ≡ mark_of marks done → next ≡ new_number marks done → cond stays (next + 1) next ≡ new_number marks (done + 1)
next_is marks done next stays h s n = elim (cases_Bool (mark_of marks done)) [
  | inl t ↦ ap (λ (b : Bool). cond b (next + 1) next) (s ∙ t) ∙ ap (λ (x : ℕ). x + 1) n ∙ sym (count_by_more_yes itself marks done false h t)
  | inr f ↦ ap (λ (b : Bool). cond b (next + 1) next) (s ∙ f) ∙ n ∙ sym (count_by_more_no itself marks done false h f)
]

-- one turn of the loop, for the test that the body reads
pub numbered_more : (old now new : Watches) (marks : List Bool) (from done next after : ℕ) (stays : Bool) → AreNumbered old now marks from done → next ≡ new_number marks done → from ≤ done → done < length old.records → done < length marks → stays ≡ mark_of marks done →
    (let w : Watches = record now { records = set now.records done (set (row_at now.records done) 1 (cond stays next end)) } in new ≡ w) → after ≡ cond stays (next + 1) next →
    AreNumbered old new marks from (done + 1) × (after ≡ new_number marks (done + 1))
numbered_more old now new marks from done next after stays a n up h l s e f = (
  AreNumbered-more old now new marks from done (cond stays next end) a up h (written_is marks done next stays s n) e,
  f ∙ next_is marks done next stays l s n,
)

pub next_fits : (marks : List Bool) (done next most : ℕ) → next ≡ new_number marks done → done < most → most < 2 ^ 32 → next < end
next_fits marks done next most n h m = let l = new_number-le marks done in omega (arith, n, h, m, l)

-- a record tells whether its clause stays
label_tells : (marks : List Bool) (rows : List (List ℕ)) (k : ℕ) → number_in rows k ≡ label marks k → k < length rows → length rows < 2 ^ 32 → mark_of (map is_kept rows) k ≡ mark_of marks k
label_tells marks rows k number in_new few =
    let at : mark_of (map is_kept rows) k ≡ is_kept (row_at rows k) = get_or-map is_kept rows k [] false in_new in
    elim (cases_Bool (mark_of marks k)) [
      | inl t ↦
          let n = label_yes marks k t in
          let below = next_fits marks k (new_number marks k) (length rows) refl in_new few in
          at ∙ ap not (ne_eqb (number_in rows k) end (λ z. omega (arith, z, number, n, below))) ∙ sym t
      | inr f ↦ at ∙ ap not (eq-eqb (number_in rows k) end (number ∙ label_no marks k f)) ∙ sym f
    ]

-- the records tell which clauses stay
pub labels_tell : (old new : Watches) (marks : List Bool) (from : ℕ) → AreNumbered old new marks from (length old.records) → AllMarked marks from → from ≤ length old.records → length marks ≡ length old.records → from_on from (map is_kept new.records) ≡ marks
labels_tell old new marks from a all within e =
    let few = a.store.few in let many = a.as_many in
    let l = length-map new.records is_kept in
    let told = from_on from (map is_kept new.records) in
    let lt = length-from_on from (map is_kept new.records) (omega (arith, l, many, within)) in
    same_lists told marks (omega (arith, l, lt, many, e)) (λ k d h.
    let in_new : k < length new.records = omega (arith, l, lt, h) in
    let marked : get_or marks k d ≡ mark_of marks k = get_or_default marks k d false (omega (arith, e, many, in_new)) in
    let read : get_or told k d ≡ mark_of told k = get_or_default told k d false h in
    elim (cases_lt k from) [
      | inl low ↦ read ∙ marked_before from (map is_kept new.records) k low ∙ sym (all k low) ∙ sym marked
      | inr high ↦
          let number = a.numbers k high (omega (arith, in_new, many)) in
          read ∙ marked_after from (map is_kept new.records) k high ∙ label_tells marks new.records k number in_new few ∙ sym marked
    ])

-- the number of a clause that stays
pub number_of_kept : (old new : Watches) (marks : List Bool) (clause : ℕ) → AreNumbered old new marks 0 (length old.records) → clause < length old.records → mark_of marks clause ≡ true → number_in new.records clause ≡ new_number marks clause
number_of_kept old new marks clause a h m = a.numbers clause (omega arith) h ∙ label_yes marks clause m

-- each record is long enough for its links
pub AreLong-store : (watches : Watches) → IsStore watches → AreLong watches.records
AreLong-store watches s row h = let r = row_size watches.atoms (row_at watches.records row) (s.records row h) in omega (arith, r.0)

-- ---- all lists are empty
pub AreWatches-unlinked : (old new : Watches) → IsStore old → new.atoms ≡ old.atoms → new.records ≡ old.records → new.watched ≡ 0 → new.heads.items ≡ replicate (2 * old.atoms + 1) end → AreWatches new
AreWatches-unlinked old new s atoms same watched heads =
    let few_atoms = s.few_atoms in let few = s.few in let records = s.records in
    let len = ap length same in
    record {
      store = record {
        few_atoms = omega (arith, atoms, few_atoms);
        heads = ap length heads ∙ length-replicate (2 * old.atoms + 1) end ∙ ap (λ (n : ℕ). 2 * n + 1) (sym atoms);
        few = omega (arith, len, few);
        watched = omega (arith, watched);
        records = λ clause h. subst (λ (n : ℕ). IsRecord n (row_at new.records clause)) (sym atoms) (subst (λ (x : List (List ℕ)). IsRecord old.atoms (row_at x clause)) (sym same) (records clause (omega (arith, len, h))));
        not_empty = λ clause h. absurd (omega (arith, watched));
      };
      listed = (
        (λ literal. []),
        record {
          threads = record {
            head = λ literal h. ap (λ (x : List ℕ). get_or x literal 0) heads ∙ get_or-replicate (2 * old.atoms + 1) literal end 0 (omega (arith, h, atoms));
            link = λ literal k h lt. absurd (omega arith);
          };
          members = record {
            sound = λ literal k h lt. absurd (omega arith);
            complete = λ literal clause h b. absurd (omega (arith, b.0, watched));
            distinct = λ literal j k h jk lt. absurd (omega arith);
          };
        },
      );
    }

-- sizes by the clauses
pub size_same : (a b : Watches) (clause : ℕ) → IsStore a → IsStore b → map literals_of b.records ≡ map literals_of a.records → clause < length a.records → get_or (row_at b.records clause) 0 0 ≡ get_or (row_at a.records clause) 0 0
size_same a b clause s t e h =
    let la = length-map a.records literals_of in let lb = length-map b.records literals_of in let l = ap length e in
    let in_b : clause < length b.records = omega (arith, la, lb, l, h) in
    sym (length_literals b.atoms (row_at b.records clause) (t.records clause in_b))
    ∙ ap length (sym (clause_at-book b.records clause in_b) ∙ ap (λ (x : List (List ℕ)). get_or x clause []) e ∙ clause_at-book a.records clause h)
    ∙ length_literals a.atoms (row_at a.records clause) (s.records clause h)

-- the first clauses are watched again, one after the other
pub record IsRewatching (old now : Watches) (most : ℕ) : Type 0 where
  pub watches : AreWatches now
  pub atoms : now.atoms ≡ old.atoms
  pub clauses : map literals_of now.records ≡ map literals_of old.records
  pub as_many : length now.records ≡ length old.records
  pub within : now.watched ≤ most

pub IsRewatching-none : (watches : Watches) (most : ℕ) → AreWatches watches → watches.watched ≤ most → IsRewatching watches watches most
IsRewatching-none watches most w h = record { watches = w; atoms = refl; clauses = refl; as_many = refl; within = h }

pub IsRewatching-more : (old now new : Watches) (most : ℕ) → IsRewatching old now most → now.watched < most → AreWatches new → WatchesOneMore now new → IsRewatching old new most
IsRewatching-more old now new most i h w o = record {
  watches = w;
  atoms = o.atoms ∙ i.atoms;
  clauses = o.clauses ∙ i.clauses;
  as_many = o.as_many ∙ i.as_many;
  within = let e = o.watched in omega (arith, e, h);
}

-- ---- rows of which some are kept
pub kept_records : (watches : Watches) (marks : List Bool) → IsStore watches → (clause : ℕ) → clause < length (kept marks watches.records) → IsRecord watches.atoms (row_at (kept marks watches.records) clause)
kept_records watches marks s clause h =
    let f = from_old marks watches.records clause [] h in
    subst (IsRecord watches.atoms) (sym f.is) (s.records f.at f.within)

pub kept_not_empty : (rows : List (List ℕ)) (marks : List Bool) (watched : ℕ) → ((clause : ℕ) → clause < watched → 0 < get_or (row_at rows clause) 0 0) → length marks ≡ length rows → watched ≤ length rows → (clause : ℕ) → clause < new_number marks watched → 0 < get_or (row_at (kept marks rows) clause) 0 0
kept_not_empty rows marks watched s e w clause h =
    let n = new_number-le-kept marks rows watched e w in
    let f = from_old marks rows clause [] (omega (arith, h, n)) in
    subst (λ (x : List ℕ). 0 < get_or x 0 0) (sym f.is) (s f.at (from_before marks rows clause watched [] f h))

-- ---- rows change that no list leads to
pub AreWatches-beyond : (old new : Watches) → AreWatches old → IsStore new → new.atoms ≡ old.atoms → new.heads.items ≡ old.heads.items → new.watched ≡ old.watched →
    ((clause : ℕ) → clause < old.watched → row_at new.records clause ≡ row_at old.records clause) → AreWatches new
AreWatches-beyond old new w s atoms heads watched agree =
    let lists = w.listed.0 in let l = w.listed.1 in
    let t : AreThreads old.atoms old.heads.items new.records lists = AreThreads-same old.records new.records old.heads.items old.watched old.atoms lists agree l.members l.threads in
    let m : ListsOf (WatchingBelow new.records old.watched) old.atoms lists = ListsOf-same old.records new.records old.watched old.atoms lists agree l.members in
    record {
      store = s;
      listed = (
        lists,
        record {
          threads = subst (λ (n : ℕ). AreThreads n new.heads.items new.records lists) (sym atoms) (subst (λ (x : List ℕ). AreThreads old.atoms x new.records lists) (sym heads) t);
          members = subst (λ (n : ℕ). ListsOf (WatchingBelow new.records new.watched) n lists) (sym atoms) (subst (λ (n : ℕ). ListsOf (WatchingBelow new.records n) old.atoms lists) (sym watched) m);
        },
      );
    }

pub AreWatches-numbered : (old new : Watches) (marks : List Bool) (from done : ℕ) → AreWatches old → AreNumbered old new marks from done → old.watched ≤ from → AreWatches new
AreWatches-numbered old new marks from done w a h =
    AreWatches-beyond old new w a.store (ap (λ (x : Watches). x.atoms) a.same) (ap (λ (x : Watches). x.heads.items) a.same) (ap (λ (x : Watches). x.watched) a.same) (λ clause l. a.before clause (omega (arith, l, h)))

pub AreWatches-compacted : (old new : Watches) (marks : List Bool) (from : ℕ) → AreWatches old → new.records ≡ kept marks old.records → new.atoms ≡ old.atoms → new.heads.items ≡ old.heads.items → new.watched ≡ old.watched →
    AllMarked marks from → length marks ≡ length old.records → from ≤ length old.records → old.watched ≤ from → AreWatches new
AreWatches-compacted old new marks from w rows atoms heads watched all many within low =
    let s = w.store in let few = s.few in
    let most = length-kept-le marks old.records in
    let least = new_number-le-kept marks old.records from many within in
    let front = count_front marks from all (omega (arith, many, within)) in
    let len = ap length rows in
    let agree : (clause : ℕ) → clause < old.watched → row_at new.records clause ≡ row_at old.records clause = λ clause l.
    ap (λ (x : List (List ℕ)). row_at x clause) rows ∙ kept_at_front marks old.records [] from clause all (omega (arith, many, within)) within (omega (arith, l, low)) in
    let store : IsStore new = record {
      few_atoms = let f = s.few_atoms in omega (arith, f, atoms);
      heads = ap length heads ∙ s.heads ∙ ap (λ (n : ℕ). 2 * n + 1) (sym atoms);
      few = omega (arith, few, most, len);
      watched = omega (arith, watched, low, least, front, len);
      records = λ clause l. subst (λ (n : ℕ). IsRecord n (row_at new.records clause)) (sym atoms) (subst (λ (x : List (List ℕ)). IsRecord old.atoms (row_at x clause)) (sym rows) (kept_records old marks s clause (omega (arith, l, len))));
      not_empty = λ clause l. subst (λ (x : List ℕ). 0 < get_or x 0 0) (sym (agree clause (omega (arith, l, watched)))) (s.not_empty clause (omega (arith, l, watched)));
    } in
    AreWatches-beyond old new w store atoms heads watched agree
