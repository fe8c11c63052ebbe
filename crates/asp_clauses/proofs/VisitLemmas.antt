-- A visit of the clauses that watch a literal which became false.
use Rattle.std.proofs.Common.{◌≡◌, ◌≢◌, ℕ, ◌+◌, ◌-◌, ◌*◌, ◌<◌, ◌≤◌, List, length, get_or, take, map, sym, ◌∙◌, ap, arith, inl, inr, subst}
use Rattle.std.specs.List.Sorted.{IsPermutation}
use Rattle.std.proofs.lemmas.List.{length-map, get_or_append_left, length-append}
use Rattle.std.proofs.lemmas.List.Sorted.{IsPermutation-refl, IsPermutation-swap}
use Rattle.std.proofs.lemmas.Bool.{cases_lt, cases_eq}
use Rattle.asp_clauses.specs.declared.trail.Step.{Step}
use Rattle.asp_clauses.specs.declared.watches.Watches.{Watches}
use Rattle.asp_clauses.specs.Literal.{negated}
use Rattle.asp_clauses.specs.Records.{row_at, literals_of}
use Rattle.asp_clauses.specs.Trail.{TrailState, IsPlaced, IsUnassigned, IsFalse, Implies, no_step, mark_at, clause_at}
use Rattle.asp_clauses.specs.Book.{BookState, SameClauses, first_watch, second_watch, IsGuarded, IsWatched, AllWatched, Goes}
use Rattle.asp_clauses.specs.Watches.{IsRecord, IsStore, side_of, WatchingBelow, book_of}
use Rattle.asp_clauses.specs.Visits.{MovesWatch, other_watch, Extends, IsStopped, IsConflict}
use Rattle.asp_clauses.specs.Choices.{IsVisit, RestIsFalse}
use Rattle.asp_clauses.proofs.FewLemmas.{not_both}
use Rattle.asp_clauses.proofs.StepsLemmas.{IsPlaced-from_take}
use Rattle.asp_clauses.proofs.StoreLemmas.{clause_at-book}
use Rattle.asp_clauses.proofs.WatchLemmas.{length_literals, cell_in_range, watch_code, side_cases, side-lt, at_side}
use Rattle.asp_clauses.proofs.ChoiceLemmas.{visited_placed}
use Rattle.asp_clauses.proofs.ReorderLemmas.{SameClauses-rows, IsLawful-reordered, IsWatched-row, first_is, second_is, never_visited, IsFalse-row, Implies-row}
use Rattle.asp_clauses.proofs.ExamineLemmas.{all_of}

-- what stays true in a trail that grows
pub IsPlaced-extends : (old new : TrailState) (literal : ℕ) → Extends old new → IsPlaced old.steps literal → IsPlaced new.steps literal
IsPlaced-extends old new literal e p =
    let xs = e.0 in
    let len = length-append old.steps xs in
    subst (λ (s : List Step). IsPlaced s literal) (sym e.1.steps) (p.0, omega (arith, len, p.1), ap (λ (s : Step). s.literal) (get_or_append_left old.steps xs no_step p.0 p.1) ∙ p.2)

-- the literal that is visited is false
pub visit_false : (trail : TrailState) (falsified : ℕ) → IsVisit trail falsified → falsified < 2 * trail.atoms → IsPlaced trail.steps (negated falsified)
visit_false trail falsified v h = visited_placed trail.atoms trail.steps trail.head falsified h v.left v.is

-- and so it isn't true
pub visit_not_true : (book : BookState) (trail : TrailState) (falsified : ℕ) → Goes book trail → IsVisit trail falsified → IsPlaced trail.steps falsified → ⊥
visit_not_true book trail falsified g v p =
    let code = g.lawful.in_range p.0 p.1 in
    not_both trail.steps falsified g.lawful.distinct p (visit_false trail falsified v (let e = p.2 in omega (arith, code, e)))

-- ---- the row that is visited
pub record VisitedRow (old : Watches) (trail : TrailState) (falsified clause : ℕ) : Type 0 where
  pub within : clause < length old.records
  pub is_record : IsRecord old.atoms (row_at old.records clause)
  pub some : 0 < get_or (row_at old.records clause) 0 0
  pub atoms : trail.atoms ≡ old.atoms
  pub side : side_of (row_at old.records clause) falsified < 2
  pub at : get_or (row_at old.records clause) (3 + side_of (row_at old.records clause) falsified) 0 ≡ falsified
  pub other : get_or (row_at old.records clause) (3 + (1 - side_of (row_at old.records clause) falsified)) 0 ≡ other_watch (row_at old.records clause) falsified
  pub code : other_watch (row_at old.records clause) falsified ≤ 2 * trail.atoms

pub visited_row : (old : Watches) (trail : TrailState) (falsified clause : ℕ) → IsStore old → Goes (book_of old) trail → WatchingBelow old.records old.watched falsified clause → VisitedRow old trail falsified clause
visited_row old trail falsified clause s g w =
    let row = row_at old.records clause in
    let low = w.0 in let watched = s.watched in
    let within : clause < length old.records = omega (arith, low, watched) in
    let r = s.records clause within in
    let lt = side-lt row falsified in
    let place : 3 + (1 - side_of row falsified) ≡ 4 - side_of row falsified = omega (arith, lt) in
    let other = ap (λ (n : ℕ). get_or row n 0) place in
    let code = watch_code old.atoms row (1 - side_of row falsified) r (omega (arith, lt)) in
    record {
      within = within;
      is_record = r;
      some = s.not_empty clause low;
      atoms = sym g.same_atoms;
      side = lt;
      at = at_side row falsified w.1;
      other = other;
      code = let e = g.same_atoms in omega (arith, code, other, e);
    }

-- where the other watch is false, or the clause's own rest is, so is the clause
rest_false : (old : Watches) (trail : TrailState) (falsified clause : ℕ) → VisitedRow old trail falsified clause → IsVisit trail falsified → RestIsFalse old trail.steps clause → (k : ℕ) → k < get_or (row_at old.records clause) 0 0 → k ≢ 1 - side_of (row_at old.records clause) falsified → IsPlaced trail.steps (negated (get_or (row_at old.records clause) (3 + k) 0))
rest_false old trail falsified clause x v rest k h ne = elim (cases_lt k 2) [
  | inl small ↦
      let row = row_at old.records clause in
      let side = x.side in
      let same : k ≡ side_of row falsified = omega (arith, small, ne, side) in
      let is : get_or row (3 + k) 0 ≡ falsified = ap (λ (n : ℕ). get_or row (3 + n) 0) same ∙ x.at in
      let code = cell_in_range old.atoms row k x.is_record h in
      let atoms = x.atoms in
      subst (λ (n : ℕ). IsPlaced trail.steps (negated n)) (sym is) (visit_false trail falsified v (omega (arith, code, atoms, is)))
  | inr large ↦ rest k large h
]

pub conflict_visited : (old : Watches) (trail : TrailState) (falsified clause : ℕ) → VisitedRow old trail falsified clause → IsVisit trail falsified → RestIsFalse old trail.steps clause →
    (other_watch (row_at old.records clause) falsified < 2 * trail.atoms → IsPlaced trail.steps (negated (other_watch (row_at old.records clause) falsified))) → IsConflict (book_of old) trail.steps clause
conflict_visited old trail falsified clause x v rest fails =
    let row = row_at old.records clause in
    let len = length-map old.records literals_of in
    let within = x.within in (
      omega (arith, len, within),
      subst (IsFalse trail.steps) (sym (clause_at-book old.records clause within)) (IsFalse-row old.atoms trail.steps row x.is_record (λ k h. elim (cases_eq k (1 - side_of row falsified)) [
        | inl e ↦
            let is : get_or row (3 + k) 0 ≡ other_watch row falsified = ap (λ (n : ℕ). get_or row (3 + n) 0) e ∙ x.other in
            let code = cell_in_range old.atoms row k x.is_record h in
            let atoms = x.atoms in
            subst (λ (n : ℕ). IsPlaced trail.steps (negated n)) (sym is) (fails (omega (arith, code, atoms, is)))
        | inr ne ↦ rest_false old trail falsified clause x v rest k h ne
      ])),
    )

pub implied_visited : (old : Watches) (trail : TrailState) (falsified clause : ℕ) → VisitedRow old trail falsified clause → IsVisit trail falsified → RestIsFalse old trail.steps clause → other_watch (row_at old.records clause) falsified < 2 * trail.atoms →
    Implies trail.steps (clause_at (map literals_of old.records) clause) (other_watch (row_at old.records clause) falsified)
implied_visited old trail falsified clause x v rest code =
    let row = row_at old.records clause in
    let side = x.side in let some = x.some in let atoms = x.atoms in let other = x.other in
    let size : 1 - side_of row falsified < get_or row 0 0 = elim (cases_lt (1 - side_of row falsified) (get_or row 0 0)) [
      | inl lt ↦ lt
      | inr ge ↦
          let one_is : 1 - side_of row falsified ≡ 1 = omega (arith, ge, some, side) in
          let n = x.is_record.one (omega (arith, ge, one_is)) in
          let e = ap (λ (m : ℕ). get_or row (3 + m) 0) one_is in
          absurd (omega (arith, n, e, other, code, atoms))
    ] in
    subst (λ (c : List ℕ). Implies trail.steps c (other_watch row falsified)) (sym (clause_at-book old.records clause x.within))
    (subst (Implies trail.steps (literals_of row)) x.other (Implies-row old.atoms trail.steps row (1 - side_of row falsified) x.is_record size (λ k h ne. rest_false old trail falsified clause x v rest k h ne)))

pub stopped_visited : (old : Watches) (trail : TrailState) (falsified clause : ℕ) → VisitedRow old trail falsified clause → IsVisit trail falsified → RestIsFalse old trail.steps clause → other_watch (row_at old.records clause) falsified < 2 * trail.atoms →
    trail.count ≡ trail.budget → IsUnassigned trail.steps (other_watch (row_at old.records clause) falsified) → IsStopped (book_of old) trail
stopped_visited old trail falsified clause x v rest code spent un =
    let len = length-map old.records literals_of in
    let within = x.within in
    record { spent = spent; unit = (clause, omega (arith, len, within), (other_watch (row_at old.records clause) falsified, un, implied_visited old trail falsified clause x v rest code)) }

-- the other way round: what the watches of a record are known by
pub watched_cells : (atoms : ℕ) (row : List ℕ) (steps : List Step) (head : ℕ) → IsRecord atoms row → IsWatched atoms steps head (literals_of row) → IsGuarded atoms steps head (get_or row 3 0) (get_or row 4 0) × IsGuarded atoms steps head (get_or row 4 0) (get_or row 3 0)
watched_cells atoms row steps head r w =
    let e = first_is atoms row r in let f = second_is atoms row r in (
      subst (λ (x : ℕ). IsGuarded atoms steps head x (get_or row 4 0)) e (subst (IsGuarded atoms steps head (first_watch atoms (literals_of row))) f w.first),
      subst (λ (x : ℕ). IsGuarded atoms steps head x (get_or row 3 0)) f (subst (IsGuarded atoms steps head (second_watch atoms (literals_of row))) e w.second),
    )

-- ---- a watch that moved to a literal that isn't false
pub same_moved : (old new : Watches) (falsified clause index : ℕ) → IsStore old → MovesWatch old new clause falsified index → 2 ≤ index → index < get_or (row_at old.records clause) 0 0 → clause < length old.records → SameClauses (map literals_of old.records) (map literals_of new.records)
same_moved old new falsified clause index s m two h within =
    let row = row_at old.records clause in
    let r = s.records clause within in
    let lit = length_literals old.atoms row r in
    let lt = side-lt row falsified in
    SameClauses-rows old.records new.records m.as_many (λ number l. elim (cases_eq number clause) [
      | inl e ↦ subst (λ (n : ℕ). IsPermutation (literals_of (row_at old.records n)) (literals_of (row_at new.records n))) (sym e)
          (IsPermutation-swap (literals_of row) (literals_of (row_at new.records clause)) (side_of row falsified) index (omega (arith, lit, lt, two, h)) (omega (arith, lit, h)) m.swapped)
      | inr ne ↦ subst (IsPermutation (literals_of (row_at old.records number))) (sym (m.others number ne)) (IsPermutation-refl (literals_of (row_at old.records number)))
    ])

moved_watched : (old new : Watches) (trail : TrailState) (falsified clause index : ℕ) → IsStore old → IsStore new → Goes (book_of old) trail → IsVisit trail falsified → VisitedRow old trail falsified clause → MovesWatch old new clause falsified index →
    index < get_or (row_at old.records clause) 0 0 → (IsPlaced trail.steps (negated (get_or (row_at old.records clause) (3 + index) 0)) → ⊥) →
    (n head : ℕ) → n ≤ length trail.steps → head ≤ n + 1 → IsWatched old.atoms (take n trail.steps) head (clause_at (map literals_of old.records) clause) → IsWatched new.atoms (take n trail.steps) head (clause_at (map literals_of new.records) clause)
moved_watched old new trail falsified clause index s s2 g v x m h stands n head l hl w =
    let row = row_at old.records clause in let new_row = row_at new.records clause in
    let within2 : clause < length new.records = let e = m.as_many in let i = x.within in omega (arith, e, i) in
    let r2 = s2.records clause within2 in
    let cells = watched_cells old.atoms row (take n trail.steps) head x.is_record (subst (IsWatched old.atoms (take n trail.steps) head) (clause_at-book old.records clause x.within) w) in
    let to = get_or row (3 + index) 0 in
    let code = cell_in_range old.atoms row index x.is_record h in
    let never : (o : ℕ) → IsGuarded old.atoms (take n trail.steps) head to o = λ o. never_visited old.atoms trail.steps n head to o l hl code stands in
    let not_true : IsPlaced (take n trail.steps) falsified → ⊥ = λ p. visit_not_true (book_of old) trail falsified g v (IsPlaced-from_take trail.steps n falsified l p) in
    let done : IsGuarded old.atoms (take n trail.steps) head (get_or new_row 3 0) (get_or new_row 4 0) × IsGuarded old.atoms (take n trail.steps) head (get_or new_row 4 0) (get_or new_row 3 0) = elim (side_cases row falsified) [
      | inl a ↦
          let in_first : get_or new_row 3 0 ≡ to = sym (ap (λ (i : ℕ). get_or new_row (3 + i) 0) a.1) ∙ m.moved_in in
          let kept : get_or new_row 4 0 ≡ get_or row 4 0 = m.kept 1 (omega arith) (let e = a.1 in omega (arith, e)) in (
            subst (λ (z : ℕ). IsGuarded old.atoms (take n trail.steps) head z (get_or new_row 4 0)) (sym in_first) (never (get_or new_row 4 0)),
            λ visit lt e. absurd (not_true (subst (IsPlaced (take n trail.steps)) a.0 (cells.1 visit lt (e ∙ kept)))),
          )
      | inr b ↦
          let in_second : get_or new_row 4 0 ≡ to = sym (ap (λ (i : ℕ). get_or new_row (3 + i) 0) b.1) ∙ m.moved_in in
          let kept : get_or new_row 3 0 ≡ get_or row 3 0 = m.kept 0 (omega arith) (let e = b.1 in omega (arith, e)) in
          let f_is : get_or row 4 0 ≡ falsified = sym (ap (λ (i : ℕ). get_or row (3 + i) 0) b.1) ∙ x.at in (
            λ visit lt e. absurd (not_true (subst (IsPlaced (take n trail.steps)) f_is (cells.0 visit lt (e ∙ kept)))),
            subst (λ (z : ℕ). IsGuarded old.atoms (take n trail.steps) head z (get_or new_row 3 0)) (sym in_second) (never (get_or new_row 3 0)),
          )
    ] in
    subst (λ (a : ℕ). IsWatched a (take n trail.steps) head (clause_at (map literals_of new.records) clause)) (sym m.atoms)
    (subst (IsWatched old.atoms (take n trail.steps) head) (sym (clause_at-book new.records clause within2))
    (IsWatched-row old.atoms new_row (take n trail.steps) head (subst (λ (a : ℕ). IsRecord a new_row) m.atoms r2) done.0 done.1))

pub Goes-moved : (old new : Watches) (trail : TrailState) (falsified clause index : ℕ) → IsStore old → IsStore new → Goes (book_of old) trail → IsVisit trail falsified → VisitedRow old trail falsified clause → MovesWatch old new clause falsified index →
    2 ≤ index → index < get_or (row_at old.records clause) 0 0 → (IsPlaced trail.steps (negated (get_or (row_at old.records clause) (3 + index) 0)) → ⊥) → Goes (book_of new) trail
Goes-moved old new trail falsified clause index s s2 g v x m two h stands =
    let same = same_moved old new falsified clause index s m two h x.within in
    let watched = s.watched in
    let each : (n head : ℕ) → n ≤ length trail.steps → head ≤ n + 1 → AllWatched (book_of old) (take n trail.steps) head → AllWatched (book_of new) (take n trail.steps) head = λ n head l hl a number lt.
    let low : number < old.watched = let e = m.watched in omega (arith, e, lt) in
    let w = a number low in
    elim (cases_eq number clause) [
      | inl e ↦ subst (λ (i : ℕ). IsWatched new.atoms (take n trail.steps) head (clause_at (map literals_of new.records) i)) (sym e)
          (moved_watched old new trail falsified clause index s s2 g v x m h stands n head l hl (subst (λ (i : ℕ). IsWatched old.atoms (take n trail.steps) head (clause_at (map literals_of old.records) i)) e w))
      | inr ne ↦
          let in_old : number < length old.records = omega (arith, low, watched) in
          let is : clause_at (map literals_of new.records) number ≡ clause_at (map literals_of old.records) number = clause_at-book new.records number (let c = m.as_many in omega (arith, c, in_old)) ∙ m.others number ne ∙ sym (clause_at-book old.records number in_old) in
          subst (λ (i : ℕ). IsWatched i (take n trail.steps) head (clause_at (map literals_of new.records) number)) (sym m.atoms) (subst (IsWatched old.atoms (take n trail.steps) head) (sym is) w)
    ] in
    let visits = g.marks.visits in
    record {
      same_atoms = m.atoms ∙ g.same_atoms;
      lawful = IsLawful-reordered trail.atoms (map literals_of old.records) (map literals_of new.records) trail.steps same g.lawful;
      counted = g.counted;
      bounded = g.bounded;
      marks = g.marks;
      watches = record {
        now = subst (λ (q : List Step). AllWatched (book_of new) q trail.head) (all_of trail.steps) (each (length trail.steps) trail.head (omega arith) visits (subst (λ (q : List Step). AllWatched (book_of old) q trail.head) (sym (all_of trail.steps)) g.watches.now));
        back = λ level hl. let k = g.marks.each level hl in each (mark_at trail.marks level).start (mark_at trail.marks level).head (let w = k.within in omega (arith, w)) k.visits (g.watches.back level hl);
      };
    }
