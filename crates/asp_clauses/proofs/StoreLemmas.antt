-- Records of clauses, and what is known of each.
use Rattle.std.proofs.Common.{◌≡◌, ℕ, ◌+◌, ◌*◌, ◌^◌, ◌<◌, ◌≤◌, ◌⊎◌, List, [], ◌∷◌, ◌++◌, length, get_or, drop, map, min, max, refl, sym, ◌∙◌, ap, arith, inl, inr, subst, length-append, length-drop, replicate, lit<}
use Rattle.std.proofs.lemmas.Bool.{cases_lt}
use Rattle.std.proofs.lemmas.List.{length_push, get_or_append_left, get_or_push, take_at, get_or-map, length-map, get_or-replicate, length-replicate}
use Rattle.asp_clauses.specs.Literal.{most_atoms}
use Rattle.asp_clauses.specs.declared.watches.Watches.{Watches}
use Rattle.asp_clauses.specs.Records.{row_at, literals_of, record_of, end}
use Rattle.asp_clauses.specs.Book.{IsClause}
use Rattle.asp_clauses.specs.Watches.{IsRecord, side_of, link_of, Watching, WatchingBelow, AreThreads, ListsOf, AreWatches}

-- a new record is one of its clause
pub literals_of-record_of : (code : ℕ) (literals : List ℕ) → literals_of (record_of code literals) ≡ literals
literals_of-record_of code literals = take_at literals (drop (min (length literals) 2) (code ∷ code ∷ [])) (length literals) refl

new_size : (code : ℕ) (literals : List ℕ) → length (record_of code literals) ≡ 3 + max (length literals) 2
new_size code literals =
    let a = length-append literals (drop (min (length literals) 2) (code ∷ code ∷ [])) in
    let b = length-drop (min (length literals) 2) (code ∷ code ∷ []) in
    omega (arith, a, b)

new_one : (code : ℕ) (literals : List ℕ) → length literals < 2 → get_or (record_of code literals) 4 0 ≡ code
new_one code [] h = refl
new_one code (x ∷ []) h = refl
new_one code (x ∷ y ∷ rest) h = absurd (omega arith)

new_none : (code : ℕ) (literals : List ℕ) → length literals < 1 → get_or (record_of code literals) 3 0 ≡ code
new_none code [] h = refl
new_none code (x ∷ rest) h = absurd (omega arith)

pub IsRecord-new : (atoms : ℕ) (literals : List ℕ) → IsClause atoms literals → IsRecord atoms (record_of (2 * atoms) literals)
IsRecord-new atoms literals c = record {
  size = new_size (2 * atoms) literals;
  one = λ h. new_one (2 * atoms) literals h;
  none = λ h. new_none (2 * atoms) literals h;
  clause = subst (IsClause atoms) (sym (literals_of-record_of (2 * atoms) literals)) c;
}

-- the lists stay where the rows of the watched clauses stay
pub link_of-same : (rows rows' : List (List ℕ)) (literal clause : ℕ) → row_at rows' clause ≡ row_at rows clause → link_of rows' literal clause ≡ link_of rows literal clause
link_of-same rows rows' literal clause e = ap (λ (row : List ℕ). get_or row (1 + side_of row literal) 0) e

pub Watching-same : (rows rows' : List (List ℕ)) (literal clause : ℕ) → row_at rows' clause ≡ row_at rows clause → Watching rows literal clause → Watching rows' literal clause
Watching-same rows rows' literal clause e w = subst (λ (row : List ℕ). (get_or row 3 0 ≡ literal) ⊎ (get_or row 4 0 ≡ literal)) (sym e) w

pub ListsOf-same : (rows rows' : List (List ℕ)) (watched atoms : ℕ) (lists : ℕ → List ℕ) → ((clause : ℕ) → clause < watched → row_at rows' clause ≡ row_at rows clause) → ListsOf (WatchingBelow rows watched) atoms lists → ListsOf (WatchingBelow rows' watched) atoms lists
ListsOf-same rows rows' watched atoms lists agree l = record {
  sound = λ literal k h lt. let s = l.sound literal k h lt in (s.0, Watching-same rows rows' literal (get_or (lists literal) k end) (agree (get_or (lists literal) k end) s.0) s.1);
  complete = λ literal clause h b. l.complete literal clause h (b.0, Watching-same rows' rows literal clause (sym (agree clause b.0)) b.1);
  distinct = l.distinct;
}

pub AreThreads-same : (rows rows' : List (List ℕ)) (heads : List ℕ) (watched atoms : ℕ) (lists : ℕ → List ℕ) → ((clause : ℕ) → clause < watched → row_at rows' clause ≡ row_at rows clause) → ListsOf (WatchingBelow rows watched) atoms lists → AreThreads atoms heads rows lists → AreThreads atoms heads rows' lists
AreThreads-same rows rows' heads watched atoms lists agree l t = record {
  head = t.head;
  link = λ literal k h lt. let s = l.sound literal k h lt in link_of-same rows rows' literal (get_or (lists literal) k end) (agree (get_or (lists literal) k end) s.0) ∙ t.link literal k h lt;
}

row_at-push : (rows : List (List ℕ)) (row : List ℕ) (clause : ℕ) → clause < length rows → row_at (rows ++ row ∷ []) clause ≡ row_at rows clause
row_at-push rows row clause h = get_or_append_left rows (row ∷ []) [] clause h

-- one more clause, not yet watched
pub AreWatches-push : (old new : Watches) (literals : List ℕ) → AreWatches old → IsClause old.atoms literals → new.atoms ≡ old.atoms → new.watched ≡ old.watched → new.heads.items ≡ old.heads.items → new.records ≡ old.records ++ record_of (2 * old.atoms) literals ∷ [] → length old.records < end → AreWatches new
AreWatches-push old new literals w c atoms watched heads records few =
    let row = record_of (2 * old.atoms) literals in
    let s = w.store in
    let len : length new.records ≡ length old.records + 1 = ap length records ∙ length_push old.records row in
    let agree : (clause : ℕ) → clause < length old.records → row_at new.records clause ≡ row_at old.records clause = λ clause h. ap (λ (x : List (List ℕ)). row_at x clause) records ∙ row_at-push old.records row clause h in
    let below : (clause : ℕ) → clause < old.watched → row_at new.records clause ≡ row_at old.records clause = λ clause h. agree clause (omega (arith, s.watched)) in
    record {
      store = record {
        few_atoms = omega (arith, s.few_atoms, atoms);
        heads = ap length heads ∙ s.heads ∙ ap (λ (n : ℕ). 2 * n + 1) (sym atoms);
        few = omega (arith, few, len);
        watched = omega (arith, s.watched, len, watched);
        records = λ clause h. elim (cases_lt clause (length old.records)) [
          | inl lt ↦ subst (λ (n : ℕ). IsRecord n (row_at new.records clause)) (sym atoms) (subst (IsRecord old.atoms) (sym (agree clause lt)) (s.records clause lt))
          | inr ge ↦
              let is : row_at new.records clause ≡ row = ap (λ (x : List (List ℕ)). row_at x clause) records ∙ get_or_push old.records row [] clause (omega (arith, len, h)) in
              subst (λ (n : ℕ). IsRecord n (row_at new.records clause)) (sym atoms) (subst (IsRecord old.atoms) (sym is) (IsRecord-new old.atoms literals c))
        ];
        not_empty = λ clause h. subst (λ (r : List ℕ). 0 < get_or r 0 0) (sym (below clause (omega (arith, h, watched)))) (s.not_empty clause (omega (arith, h, watched)));
      };
      listed = (
        w.listed.0,
        record {
          threads = subst (λ (n : ℕ). AreThreads n new.heads.items new.records w.listed.0) (sym atoms) (subst (λ (x : List ℕ). AreThreads old.atoms x new.records w.listed.0) (sym heads)
              (AreThreads-same old.records new.records old.heads.items old.watched old.atoms w.listed.0 below w.listed.1.members w.listed.1.threads));
          members = subst (λ (n : ℕ). ListsOf (WatchingBelow new.records new.watched) n w.listed.0) (sym atoms) (subst (λ (n : ℕ). ListsOf (WatchingBelow new.records n) old.atoms w.listed.0) (sym watched)
              (ListsOf-same old.records new.records old.watched old.atoms w.listed.0 below w.listed.1.members));
        },
      );
    }

-- no clause yet
pub AreWatches-none : (new : Watches) → new.atoms ≤ most_atoms → new.watched ≡ 0 → new.records ≡ [] → new.heads.items ≡ replicate (2 * new.atoms + 1) end → AreWatches new
AreWatches-none new few watched records heads =
    let none = ap length records in
    record {
      store = record {
        few_atoms = few;
        heads = ap length heads ∙ length-replicate (2 * new.atoms + 1) end;
        few = subst (λ (n : ℕ). n < 2 ^ 32) (sym none) (lit< tt);
        watched = omega (arith, watched);
        records = λ clause h. absurd (omega (arith, none));
        not_empty = λ clause h. absurd (omega (arith, watched));
      };
      listed = (
        (λ literal. []),
        record {
          threads = record {
            head = λ literal h. ap (λ (x : List ℕ). get_or x literal 0) heads ∙ get_or-replicate (2 * new.atoms + 1) literal end 0 (omega arith);
            link = λ literal k h lt. absurd (omega arith);
          };
          members = record {
            sound = λ literal k h lt. absurd (omega arith);
            complete = λ literal clause h b. absurd (omega (arith, b.0, watched));
            distinct = λ literal j k h jk lt. absurd (omega arith);
          };
        },
      );
    }

-- the clauses that the records hold
pub clause_at-book : (rows : List (List ℕ)) (clause : ℕ) → clause < length rows → get_or (map literals_of rows) clause [] ≡ literals_of (row_at rows clause)
clause_at-book rows clause h = get_or-map literals_of rows clause [] [] h

pub clauses_longer : (rows : List (List ℕ)) (row : List ℕ) → length (map literals_of rows) ≤ length (map literals_of (rows ++ row ∷ []))
clauses_longer rows row =
    let a = length-map rows literals_of in let b = length-map (rows ++ row ∷ []) literals_of in let c = length_push rows row in omega (arith, a, b, c)

pub clause_at-push : (rows : List (List ℕ)) (row : List ℕ) (clause : ℕ) → clause < length (map literals_of rows) → get_or (map literals_of (rows ++ row ∷ [])) clause [] ≡ get_or (map literals_of rows) clause []
clause_at-push rows row clause h =
    let a = length-map rows literals_of in let c = length_push rows row in
    let lt : clause < length rows = omega (arith, a, h) in
    clause_at-book (rows ++ row ∷ []) clause (omega (arith, lt, c)) ∙ ap literals_of (row_at-push rows row clause lt) ∙ sym (clause_at-book rows clause lt)
