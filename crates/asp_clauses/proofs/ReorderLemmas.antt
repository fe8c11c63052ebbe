-- Books whose clauses change the order of their literals, and what is then still known.
use Rattle.std.proofs.Common.{◌≡◌, ◌≢◌, ℕ, ◌+◌, ◌*◌, ◌<◌, ◌≤◌, List, length, get_or, take, map, min, refl, sym, ◌∙◌, ap, arith, inl, inr, subst}
use Rattle.std.specs.List.{Contains}
use Rattle.std.specs.List.Sorted.{IsPermutation}
use Rattle.std.proofs.lemmas.List.Sorted.{Contains-permutation, IsPermutation-sym, IsPermutation-refl, IsPermutation-trans}
use Rattle.std.proofs.lemmas.List.{length-map, get_or_default, length-take-le, get_or_past}
use Rattle.std.proofs.lemmas.Bool.{cases_lt, cases_eq}
use Rattle.asp_clauses.specs.declared.trail.Step.{Step}
use Rattle.asp_clauses.specs.declared.trail.Mark.{Mark}
use Rattle.asp_clauses.specs.declared.watches.Watches.{Watches}
use Rattle.asp_clauses.specs.Literal.{negated}
use Rattle.asp_clauses.specs.Records.{row_at, literals_of}
use Rattle.asp_clauses.specs.Trail.{TrailState, IsPlaced, IsUnassigned, IsFalse, Implies, IsLawful, literal_at, mark_at, clause_at}
use Rattle.asp_clauses.specs.Moves.{Lowers}
use Rattle.asp_clauses.specs.Book.{BookState, SameClauses, first_watch, second_watch, IsGuarded, IsWatched, AllWatched, Goes}
use Rattle.asp_clauses.specs.Watches.{IsRecord, book_of}
use Rattle.asp_clauses.specs.Visits.{WatchesOneMore}
use Rattle.asp_clauses.specs.Choices.{MadeTrue, IsLastFrom}
use Rattle.asp_clauses.proofs.FewLemmas.{unassigned_few}
use Rattle.asp_clauses.proofs.StepsLemmas.{IsPlaced-from_take}
use Rattle.asp_clauses.proofs.StoreLemmas.{clause_at-book}
use Rattle.asp_clauses.proofs.MarkLemmas.{AreMarks-lowered}
use Rattle.asp_clauses.proofs.WatchLemmas.{length_literals, literal_in_row, cell_in_range}
use Rattle.asp_clauses.proofs.ChoiceLemmas.{visited_placed, placed_visited}
use Rattle.asp_clauses.proofs.GoesLemmas.{Goes-implied, AllWatched-fewer}

-- ---- the same clauses
pub SameClauses-refl : (clauses : List (List ℕ)) → SameClauses clauses clauses
SameClauses-refl clauses = record { as_many = refl; reordered = λ clause h. IsPermutation-refl (clause_at clauses clause) }

pub SameClauses-trans : (a b c : List (List ℕ)) → SameClauses a b → SameClauses b c → SameClauses a c
SameClauses-trans a b c x y = record {
  as_many = y.as_many ∙ x.as_many;
  reordered = λ clause h. IsPermutation-trans (clause_at a clause) (clause_at b clause) (clause_at c clause) (x.reordered clause h) (y.reordered clause (let e = x.as_many in omega (arith, e, h)));
}

-- clauses by their rows
pub SameClauses-rows : (old new : List (List ℕ)) → length new ≡ length old → ((clause : ℕ) → clause < length old → IsPermutation (literals_of (row_at old clause)) (literals_of (row_at new clause))) → SameClauses (map literals_of old) (map literals_of new)
SameClauses-rows old new len p =
    let a = length-map old literals_of in let b = length-map new literals_of in
    record {
      as_many = b ∙ len ∙ sym a;
      reordered = λ clause h.
          let lt : clause < length old = omega (arith, a, h) in
          subst (λ (x : List ℕ). IsPermutation x (clause_at (map literals_of new) clause)) (sym (clause_at-book old clause lt))
          (subst (IsPermutation (literals_of (row_at old clause))) (sym (clause_at-book new clause (omega (arith, len, lt)))) (p clause lt));
    }

Implies-reordered : (steps : List Step) (xs ys : List ℕ) (literal : ℕ) → IsPermutation xs ys → Implies steps xs literal → Implies steps ys literal
Implies-reordered steps xs ys literal p i = record {
  has = Contains-permutation xs ys literal p i.has;
  others_fail = λ other c ne. i.others_fail other (Contains-permutation ys xs other (IsPermutation-sym xs ys p) c) ne;
}

pub IsLawful-reordered : (atoms : ℕ) (old new : List (List ℕ)) (steps : List Step) → SameClauses old new → IsLawful atoms old steps → IsLawful atoms new steps
IsLawful-reordered atoms old new steps s l = record {
  in_range = l.in_range;
  distinct = l.distinct;
  reasoned = λ place h number e.
      let r = l.reasoned place h number e in
      (let n = s.as_many in omega (arith, n, r.0), Implies-reordered (take place steps) (clause_at old number) (clause_at new number) (literal_at steps place) (s.reordered number r.0) r.1);
}

-- other clauses than the watched ones change their order
pub Goes-reordered : (old new : BookState) (trail : TrailState) → new.atoms ≡ old.atoms → new.watched ≡ old.watched → SameClauses old.clauses new.clauses → ((clause : ℕ) → clause < old.watched → clause_at new.clauses clause ≡ clause_at old.clauses clause) → Goes old trail → Goes new trail
Goes-reordered old new trail atoms watched same kept g =
    let each : (steps : List Step) (head : ℕ) → AllWatched old steps head → AllWatched new steps head = λ steps head a clause h.
    let lt : clause < old.watched = omega (arith, h, watched) in
    subst (λ (n : ℕ). IsWatched n steps head (clause_at new.clauses clause)) (sym atoms) (subst (IsWatched old.atoms steps head) (sym (kept clause lt)) (a clause lt)) in
    record {
      same_atoms = atoms ∙ g.same_atoms;
      lawful = IsLawful-reordered trail.atoms old.clauses new.clauses trail.steps same g.lawful;
      counted = g.counted;
      bounded = g.bounded;
      marks = g.marks;
      watches = record {
        now = each trail.steps trail.head g.watches.now;
        back = λ level h. each (take (mark_at trail.marks level).start trail.steps) (mark_at trail.marks level).head (g.watches.back level h);
      };
    }

-- a literal that was made true
pub Goes-made_true : (book : BookState) (old new : TrailState) (literal clause : ℕ) → MadeTrue old new literal clause → literal < 2 * old.atoms → clause < length book.clauses → (IsUnassigned old.steps literal → Implies old.steps (clause_at book.clauses clause) literal) → Goes book old → Goes book new
Goes-made_true book old new literal clause m code h implied g = elim m.how [
  | inl same ↦ subst (Goes book) (sym same) g
  | inr is ↦ subst (Goes book) (sym is.0) (Goes-implied book old literal clause g (unassigned_few old.atoms old.steps literal g.lawful.in_range g.lawful.distinct code is.1) code is.1 h (implied is.1))
]

-- lowered marks
pub Goes-lowered : (book : BookState) (old new : TrailState) (visit : ℕ) → Lowers old new visit → Goes book old → Goes book new
Goes-lowered book old new visit l g =
    let moved : TrailState = record old { marks = new.marks } in
    subst (Goes book) (sym l.others) (record {
      same_atoms = g.same_atoms;
      lawful = g.lawful;
      counted = g.counted;
      bounded = g.bounded;
      marks = AreMarks-lowered old.steps old.marks new.marks old.head visit g.marks l.as_many l.low;
      watches = record {
        now = g.watches.now;
        back = λ level h.
            let lt : level < length old.marks = let e = l.as_many in omega (arith, e, h) in
            let old_mark = mark_at old.marks level in
            subst (λ (m : Mark). AllWatched book (take m.start old.steps) m.head) (sym (l.low level lt))
            (AllWatched-fewer book (take old_mark.start old.steps) old_mark.head (min old_mark.head visit) (omega arith) (g.watches.back level lt));
      };
    })

-- one more clause is watched
pub Goes-watched : (old new : Watches) (trail : TrailState) → WatchesOneMore old new → Goes (book_of old) trail →
    IsWatched old.atoms trail.steps trail.head (clause_at (map literals_of old.records) old.watched) →
    ((level : ℕ) → level < length trail.marks → IsWatched old.atoms (take (mark_at trail.marks level).start trail.steps) (mark_at trail.marks level).head (clause_at (map literals_of old.records) old.watched)) → Goes (book_of new) trail
Goes-watched old new trail w g now back =
    let same : map literals_of new.records ≡ map literals_of old.records = w.clauses in
    let each : (steps : List Step) (head : ℕ) → AllWatched (book_of old) steps head → IsWatched old.atoms steps head (clause_at (map literals_of old.records) old.watched) → AllWatched (book_of new) steps head = λ steps head a one clause h.
    subst (λ (n : ℕ). IsWatched n steps head (clause_at (map literals_of new.records) clause)) (sym w.atoms) (subst (λ (c : List (List ℕ)). IsWatched old.atoms steps head (clause_at c clause)) (sym same)
    (elim (cases_eq clause old.watched) [
      | inl e ↦ subst (λ (n : ℕ). IsWatched old.atoms steps head (clause_at (map literals_of old.records) n)) (sym e) one
      | inr ne ↦ let m = w.watched in a clause (omega (arith, h, m, ne))
    ])) in
    record {
      same_atoms = w.atoms ∙ g.same_atoms;
      lawful = subst (λ (c : List (List ℕ)). IsLawful trail.atoms c trail.steps) (sym same) g.lawful;
      counted = g.counted;
      bounded = g.bounded;
      marks = g.marks;
      watches = record {
        now = each trail.steps trail.head g.watches.now now;
        back = λ level h. each (take (mark_at trail.marks level).start trail.steps) (mark_at trail.marks level).head (g.watches.back level h) (back level h);
      };
    }

-- ---- the watches of a record
pub first_is : (atoms : ℕ) (row : List ℕ) → IsRecord atoms row → first_watch atoms (literals_of row) ≡ get_or row 3 0
first_is atoms row r = elim (cases_lt 0 (get_or row 0 0)) [
  | inl lt ↦ let l = length_literals atoms row r in get_or_default (literals_of row) 0 (2 * atoms) 0 (omega (arith, l)) ∙ literal_in_row row 0 lt
  | inr ge ↦ let l = length_literals atoms row r in get_or_past (literals_of row) 0 (2 * atoms) (omega (arith, l)) ∙ sym (r.none (omega arith))
]

pub second_is : (atoms : ℕ) (row : List ℕ) → IsRecord atoms row → second_watch atoms (literals_of row) ≡ get_or row 4 0
second_is atoms row r = elim (cases_lt 1 (get_or row 0 0)) [
  | inl lt ↦ let l = length_literals atoms row r in get_or_default (literals_of row) 1 (2 * atoms) 0 (omega (arith, l)) ∙ literal_in_row row 1 lt
  | inr ge ↦ let l = length_literals atoms row r in get_or_past (literals_of row) 1 (2 * atoms) (omega (arith, l)) ∙ sym (r.one (omega arith))
]

pub IsWatched-row : (atoms : ℕ) (row : List ℕ) (steps : List Step) (head : ℕ) → IsRecord atoms row → IsGuarded atoms steps head (get_or row 3 0) (get_or row 4 0) → IsGuarded atoms steps head (get_or row 4 0) (get_or row 3 0) → IsWatched atoms steps head (literals_of row)
IsWatched-row atoms row steps head r a b =
    let e = first_is atoms row r in let f = second_is atoms row r in record {
      first = subst (λ (w : ℕ). IsGuarded atoms steps head w (second_watch atoms (literals_of row))) (sym e) (subst (IsGuarded atoms steps head (get_or row 3 0)) (sym f) a);
      second = subst (λ (w : ℕ). IsGuarded atoms steps head w (first_watch atoms (literals_of row))) (sym f) (subst (IsGuarded atoms steps head (get_or row 4 0)) (sym e) b);
    }

-- a literal that isn't false was never visited
pub never_visited : (atoms : ℕ) (steps : List Step) (n head watch other : ℕ) → n ≤ length steps → head ≤ n + 1 → watch < 2 * atoms → (IsPlaced steps (negated watch) → ⊥) → IsGuarded atoms (take n steps) head watch other
never_visited atoms steps n head watch other l h code stands visit v e =
    let len = length-take-le n steps l in
    absurd (stands (IsPlaced-from_take steps n (negated watch) l (visited_placed atoms (take n steps) visit watch code (omega (arith, len, v, h)) e)))

-- ---- clauses whose literals are false
pub Contains-place : (xs : List ℕ) (x : ℕ) → Contains xs x → (k : ℕ) × (k < length xs) × (get_or xs k 0 ≡ x)
Contains-place xs x c = (c.0, c.1, get_or_default xs c.0 0 x c.1 ∙ c.2)

pub Contains-at : (xs : List ℕ) (k : ℕ) → k < length xs → Contains xs (get_or xs k 0)
Contains-at xs k h = (k, h, get_or_default xs k (get_or xs k 0) 0 h)

pub IsFalse-row : (atoms : ℕ) (steps : List Step) (row : List ℕ) → IsRecord atoms row → ((k : ℕ) → k < get_or row 0 0 → IsPlaced steps (negated (get_or row (3 + k) 0))) → IsFalse steps (literals_of row)
IsFalse-row atoms steps row r f literal c =
    let m = Contains-place (literals_of row) literal c in
    let l = length_literals atoms row r in
    let lt : m.0 < get_or row 0 0 = omega (arith, l, m.1) in
    subst (λ (x : ℕ). IsPlaced steps (negated x)) (sym (literal_in_row row m.0 lt) ∙ m.2) (f m.0 lt)

pub Implies-row : (atoms : ℕ) (steps : List Step) (row : List ℕ) (i : ℕ) → IsRecord atoms row → i < get_or row 0 0 → ((k : ℕ) → k < get_or row 0 0 → k ≢ i → IsPlaced steps (negated (get_or row (3 + k) 0))) → Implies steps (literals_of row) (get_or row (3 + i) 0)
Implies-row atoms steps row i r h f =
    let l = length_literals atoms row r in
    record {
      has = subst (Contains (literals_of row)) (literal_in_row row i h) (Contains-at (literals_of row) i (omega (arith, l, h)));
      others_fail = λ other c ne.
          let m = Contains-place (literals_of row) other c in
          let lt : m.0 < get_or row 0 0 = omega (arith, l, m.1) in
          let there : m.0 ≢ i = λ e. ne (sym m.2 ∙ literal_in_row row m.0 lt ∙ ap (λ (n : ℕ). get_or row (3 + n) 0) e) in
          subst (λ (x : ℕ). IsPlaced steps (negated x)) (sym (literal_in_row row m.0 lt) ∙ m.2) (f m.0 lt there);
    }

-- what became false last is false, and so is all before it
pub last_false : (atoms : ℕ) (trail : TrailState) (row : List ℕ) (from best : ℕ) → trail.atoms ≡ atoms → IsRecord atoms row → IsLastFrom trail row from best → IsPlaced trail.steps (negated (get_or row (3 + best) 0)) → (k : ℕ) → from ≤ k → k < get_or row 0 0 → IsPlaced trail.steps (negated (get_or row (3 + k) 0))
last_false atoms trail row from best same r last p k a h =
    let v = placed_visited trail.atoms trail.steps (get_or row (3 + best) 0) p in
    let f = last k v.0 a h v.1 v.2 in
    let code = cell_in_range atoms row k r h in
    visited_placed trail.atoms trail.steps f.0 (get_or row (3 + k) 0) (omega (arith, code, same)) (omega (arith, f.1, v.1)) f.2
