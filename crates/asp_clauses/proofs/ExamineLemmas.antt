-- The first look at a clause.
use Rattle.std.proofs.Common.{◌≡◌, ◌≢◌, ℕ, ◌+◌, ◌-◌, ◌*◌, ◌<◌, ◌≤◌, ◌⊎◌, List, [], ◌∷◌, ◌++◌, length, get_or, take, map, refl, sym, ◌∙◌, ap, arith, inl, inr, subst, Some}
use Rattle.std.proofs.lemmas.List.{length-map, append-nil, append_assoc, take_all, get_or_append_left, get_or-append_right}
use Rattle.std.proofs.Common.{length-append}
use Rattle.std.proofs.lemmas.List.Sorted.{IsPermutation-refl}
use Rattle.std.specs.List.Sorted.{IsPermutation}
use Rattle.std.proofs.lemmas.Bool.{cases_lt, cases_eq}
use Rattle.asp_clauses.specs.declared.trail.Step.{Step}
use Rattle.asp_clauses.specs.declared.trail.Mark.{Mark}
use Rattle.asp_clauses.specs.declared.watches.Watches.{Watches}
use Rattle.asp_clauses.specs.Literal.{negated}
use Rattle.asp_clauses.specs.Records.{row_at, literals_of}
use Rattle.asp_clauses.specs.Trail.{TrailState, IsPlaced, IsUnassigned, IsFalse, Implies, step_at, mark_at, clause_at, is_decision, no_step}
use Rattle.asp_clauses.specs.Moves.{Lowers}
use Rattle.asp_clauses.specs.Book.{SameClauses, visit_at, IsGuarded, IsWatched, Goes}
use Rattle.asp_clauses.specs.Watches.{IsRecord, AreWatches, AreThreads, ListsOf, WatchingBelow, book_of}
use Rattle.asp_clauses.specs.Visits.{WatchesOneMore, Extends, Propagates, IsStopped, IsConflict}
use Rattle.asp_clauses.specs.Choices.{Orders, MadeTrue}
use Rattle.asp_clauses.proofs.StepsLemmas.{IsPlaced-push}
use Rattle.asp_clauses.proofs.FewLemmas.{not_both}
use Rattle.asp_clauses.proofs.StoreLemmas.{clause_at-book, AreThreads-same, ListsOf-same}
use Rattle.asp_clauses.proofs.WatchLemmas.{cell_in_range}
use Rattle.asp_clauses.proofs.GoesLemmas.{visit_at-take}
use Rattle.asp_clauses.proofs.ReorderLemmas.{SameClauses-rows, Goes-reordered, Goes-lowered, Goes-watched, IsWatched-row, never_visited, IsFalse-row, Implies-row, last_false}

-- ---- trails that grow
pub Extends-refl : (trail : TrailState) → Extends trail trail
Extends-refl trail = (
  [],
  record {
    steps = sym (append-nil trail.steps);
    implied = λ place h. absurd (omega arith);
    count = omega arith;
    atoms = refl;
    budget = refl;
  },
)

pub Extends-same : (old new : TrailState) → new ≡ old → Extends old new
Extends-same old new e = subst (Extends old) (sym e) (Extends-refl old)

pub Extends-trans : (a b c : TrailState) → Extends a b → Extends b c → Extends a c
Extends-trans a b c x y =
    let xs = x.0 in let ys = y.0 in
    let len = length-append xs ys in (
      xs ++ ys,
      record {
        steps = y.1.steps ∙ ap (λ (s : List Step). s ++ ys) x.1.steps ∙ append_assoc a.steps xs ys;
        implied = λ place h. elim (cases_lt place (length xs)) [
          | inl lt ↦ ap is_decision (get_or_append_left xs ys no_step place lt) ∙ x.1.implied place lt
          | inr ge ↦ ap is_decision (get_or-append_right xs ys (length xs) place no_step refl ge) ∙ y.1.implied (place - length xs) (omega (arith, len, h, ge))
        ];
        count = let p = x.1.count in let q = y.1.count in omega (arith, p, q, len);
        atoms = y.1.atoms ∙ x.1.atoms;
        budget = y.1.budget ∙ x.1.budget;
      },
    )

pub Extends-made_true : (old new : TrailState) (literal clause : ℕ) → MadeTrue old new literal clause → Extends old new
Extends-made_true old new literal clause m = elim m.how [
  | inl same ↦ Extends-same old new same
  | inr is ↦
      let step : Step = record { literal = literal; reason = Some clause } in
      subst (Extends old) (sym is.0) (
        step ∷ [],
        record {
          steps = refl;
          implied = λ place h. (let z : place ≡ 0 = omega arith in ap (λ (n : ℕ). is_decision (step_at (step ∷ []) n)) z);
          count = refl;
          atoms = refl;
          budget = refl;
        },
      )
]

pub Extends-lowered : (old new : TrailState) (visit : ℕ) → Lowers old new visit → Extends old new
Extends-lowered old new visit l = subst (Extends old) (sym l.others) (
  [],
  record {
    steps = sym (append-nil old.steps);
    implied = λ place h. absurd (omega arith);
    count = omega arith;
    atoms = refl;
    budget = refl;
  },
)

-- what stays false
pub stays_placed : (old new : TrailState) (literal clause other : ℕ) → MadeTrue old new literal clause → IsPlaced old.steps other → IsPlaced new.steps other
stays_placed old new literal clause other m p = elim m.how [
  | inl same ↦ subst (λ (t : TrailState). IsPlaced t.steps other) (sym same) p
  | inr is ↦ subst (λ (t : TrailState). IsPlaced t.steps other) (sym is.0) (IsPlaced-push old.steps (record { literal = literal; reason = Some clause }) other p)
]

pub made_true_atoms : (old new : TrailState) (literal clause : ℕ) → MadeTrue old new literal clause → new.atoms ≡ old.atoms
made_true_atoms old new literal clause m = elim m.how [ inl same ↦ ap (λ (t : TrailState). t.atoms) same | inr is ↦ ap (λ (t : TrailState). t.atoms) is.0 ]

-- ---- the clause in order
pub record Examined (old one : Watches) (trail : TrailState) : Type 0 where
  pub watches : AreWatches one
  pub goes : Goes (book_of one) trail
  pub clauses : SameClauses (map literals_of old.records) (map literals_of one.records)
  pub atoms : one.atoms ≡ old.atoms
  pub trail_atoms : trail.atoms ≡ one.atoms
  pub number : one.watched ≡ old.watched
  pub within : old.watched < length one.records
  pub some : 0 < get_or (row_at one.records old.watched) 0 0
  pub is_record : IsRecord one.atoms (row_at one.records old.watched)
  pub is : clause_at (map literals_of one.records) old.watched ≡ literals_of (row_at one.records old.watched)

pub ordered : (old one : Watches) (trail : TrailState) → AreWatches old → Goes (book_of old) trail → old.watched < length old.records → 0 < get_or (row_at old.records old.watched) 0 0 → Orders old one trail old.watched → Examined old one trail
ordered old one trail w g left some o =
    let atoms : one.atoms ≡ old.atoms = ap (λ (x : Watches). x.atoms) o.same in
    let number : one.watched ≡ old.watched = ap (λ (x : Watches). x.watched) o.same in
    let heads : one.heads.items ≡ old.heads.items = ap (λ (x : Watches). x.heads.items) o.same in
    let below : (clause : ℕ) → clause < old.watched → row_at one.records clause ≡ row_at old.records clause = λ clause h. let ne : clause ≢ old.watched = omega arith in o.others clause ne in
    let within : old.watched < length one.records = let l = o.as_many in omega (arith, l, left) in
    let clauses = SameClauses-rows old.records one.records o.as_many (λ clause h. elim (cases_eq clause old.watched) [
      | inl e ↦ subst (λ (n : ℕ). IsPermutation (literals_of (row_at old.records n)) (literals_of (row_at one.records n))) (sym e) o.reordered
      | inr ne ↦ subst (λ (x : List ℕ). IsPermutation (literals_of (row_at old.records clause)) (literals_of x)) (sym (o.others clause ne)) (IsPermutation-refl (literals_of (row_at old.records clause)))
    ]) in
    let l = w.listed.1 in
    let len_old = length-map old.records literals_of in
    record {
      watches = record {
        store = o.store;
        listed = (
          w.listed.0,
          record {
            threads = subst (λ (n : ℕ). AreThreads n one.heads.items one.records w.listed.0) (sym atoms) (subst (λ (x : List ℕ). AreThreads old.atoms x one.records w.listed.0) (sym heads)
                (AreThreads-same old.records one.records old.heads.items old.watched old.atoms w.listed.0 below l.members l.threads));
            members = subst (λ (n : ℕ). ListsOf (WatchingBelow one.records one.watched) n w.listed.0) (sym atoms) (subst (λ (n : ℕ). ListsOf (WatchingBelow one.records n) old.atoms w.listed.0) (sym number)
                (ListsOf-same old.records one.records old.watched old.atoms w.listed.0 below l.members));
          },
        );
      };
      goes = Goes-reordered (book_of old) (book_of one) trail atoms number clauses (λ clause h.
          let lt : clause < length old.records = omega (arith, h, left) in
          clause_at-book one.records clause (let n = o.as_many in omega (arith, n, lt)) ∙ ap literals_of (below clause h) ∙ sym (clause_at-book old.records clause lt)) g;
      clauses = clauses;
      atoms = atoms;
      trail_atoms = sym (atoms ∙ g.same_atoms);
      number = number;
      within = within;
      some = let s = o.size in omega (arith, s, some);
      is_record = o.store.records old.watched within;
      is = clause_at-book one.records old.watched within;
    }

-- the clause is false
pub conflict_of : (old one : Watches) (trail : TrailState) → Examined old one trail → Orders old one trail old.watched → IsPlaced trail.steps (negated (get_or (row_at one.records old.watched) 3 0)) → IsConflict (book_of one) trail.steps old.watched
conflict_of old one trail x o p =
    let row = row_at one.records old.watched in
    let len = length-map one.records literals_of in
    let within = x.within in
    (omega (arith, len, within), subst (IsFalse trail.steps) (sym x.is) (IsFalse-row one.atoms trail.steps row x.is_record (λ k h. last_false one.atoms trail row 0 0 x.trail_atoms x.is_record o.first p k (omega arith) h)))

-- where the second is false, the clause implies the first
pub implies_first : (old one : Watches) (trail : TrailState) → Examined old one trail → Orders old one trail old.watched → (get_or (row_at one.records old.watched) 4 0 < 2 * trail.atoms → IsPlaced trail.steps (negated (get_or (row_at one.records old.watched) 4 0))) →
    Implies trail.steps (clause_at (map literals_of one.records) old.watched) (get_or (row_at one.records old.watched) 3 0)
implies_first old one trail x o fails =
    let row = row_at one.records old.watched in
    let atoms = x.trail_atoms in
    subst (λ (c : List ℕ). Implies trail.steps c (get_or row 3 0)) (sym x.is) (Implies-row one.atoms trail.steps row 0 x.is_record x.some (λ k h ne.
    let two : 1 < get_or row 0 0 = omega (arith, h, ne) in
    let code = cell_in_range one.atoms row 1 x.is_record two in
    last_false one.atoms trail row 1 1 x.trail_atoms x.is_record o.second (fails (omega (arith, code, atoms))) k (omega (arith, ne)) h))

pub stopped_of : (old one : Watches) (trail : TrailState) → Examined old one trail → Orders old one trail old.watched → (get_or (row_at one.records old.watched) 4 0 < 2 * trail.atoms → IsPlaced trail.steps (negated (get_or (row_at one.records old.watched) 4 0))) →
    trail.count ≡ trail.budget → IsUnassigned trail.steps (get_or (row_at one.records old.watched) 3 0) → IsStopped (book_of one) trail
stopped_of old one trail x o fails spent un =
    let len = length-map one.records literals_of in
    let within = x.within in
    record { spent = spent; unit = (old.watched, omega (arith, len, within), (get_or (row_at one.records old.watched) 3 0, un, implies_first old one trail x o fails)) }

-- ---- the clause with both its watches
pub all_of : (steps : List Step) → take (length steps) steps ≡ steps
all_of steps = take_all (length steps) steps (omega arith)

-- neither watch is false
pub watched_open : (old one : Watches) (trail : TrailState) → Examined old one trail → (IsPlaced trail.steps (negated (get_or (row_at one.records old.watched) 3 0)) → ⊥) → (IsPlaced trail.steps (negated (get_or (row_at one.records old.watched) 4 0)) → ⊥) → get_or (row_at one.records old.watched) 4 0 < 2 * trail.atoms →
    (n head : ℕ) → n ≤ length trail.steps → head ≤ n + 1 → IsWatched one.atoms (take n trail.steps) head (clause_at (map literals_of one.records) old.watched)
watched_open old one trail x first second code n head l h =
    let row = row_at one.records old.watched in
    let atoms = x.trail_atoms in
    let code0 = cell_in_range one.atoms row 0 x.is_record x.some in
    subst (IsWatched one.atoms (take n trail.steps) head) (sym x.is) (IsWatched-row one.atoms row (take n trail.steps) head x.is_record
    (never_visited one.atoms trail.steps n head (get_or row 3 0) (get_or row 4 0) l h code0 first)
    (never_visited one.atoms trail.steps n head (get_or row 4 0) (get_or row 3 0) l h (omega (arith, code, atoms)) second))

-- the first watch is true, and the second is false since a visit that is not yet done where the first isn't there
pub watched_true : (old one : Watches) (trail : TrailState) → Examined old one trail → IsPlaced trail.steps (get_or (row_at one.records old.watched) 3 0) → (position : ℕ) →
    ((visit : ℕ) → visit ≤ length trail.steps → visit_at trail.atoms trail.steps visit ≡ get_or (row_at one.records old.watched) 4 0 → visit ≡ position) →
    (n head : ℕ) → n ≤ length trail.steps → head ≤ n + 1 → (n ≡ length trail.steps) ⊎ (head ≤ position) → IsWatched one.atoms (take n trail.steps) head (clause_at (map literals_of one.records) old.watched)
watched_true old one trail x first position only n head l h now =
    let row = row_at one.records old.watched in
    let atoms = x.trail_atoms in
    let code0 = cell_in_range one.atoms row 0 x.is_record x.some in
    let d = x.goes.lawful.distinct in
    let second : IsGuarded one.atoms (take n trail.steps) head (get_or row 4 0) (get_or row 3 0) = elim now [
      | inl e ↦ λ visit v w. subst (λ (s : List Step). IsPlaced s (get_or row 3 0)) (sym (ap (λ (m : ℕ). take m trail.steps) e ∙ all_of trail.steps)) first
      | inr low ↦ λ visit v w.
          let same = only visit (omega (arith, v, h, l)) (ap (λ (m : ℕ). visit_at m trail.steps visit) atoms ∙ sym (visit_at-take one.atoms trail.steps n visit (omega (arith, v, h))) ∙ w) in
          absurd (omega (arith, same, v, low))
    ] in
    subst (IsWatched one.atoms (take n trail.steps) head) (sym x.is) (IsWatched-row one.atoms row (take n trail.steps) head x.is_record
    (never_visited one.atoms trail.steps n head (get_or row 3 0) (get_or row 4 0) l h code0 (λ p. not_both trail.steps (get_or row 3 0) d first p)) second)

pub Goes-open : (old one two : Watches) (trail : TrailState) → Examined old one trail → WatchesOneMore one two → (IsPlaced trail.steps (negated (get_or (row_at one.records old.watched) 3 0)) → ⊥) → (IsPlaced trail.steps (negated (get_or (row_at one.records old.watched) 4 0)) → ⊥) → get_or (row_at one.records old.watched) 4 0 < 2 * trail.atoms → Goes (book_of two) trail
Goes-open old one two trail x m first second code =
    let visits = x.goes.marks.visits in
    let each = watched_open old one trail x first second code in
    let here : (steps : List Step) (head : ℕ) → IsWatched one.atoms steps head (clause_at (map literals_of one.records) old.watched) → IsWatched one.atoms steps head (clause_at (map literals_of one.records) one.watched) = λ steps head w. subst (λ (n : ℕ). IsWatched one.atoms steps head (clause_at (map literals_of one.records) n)) (sym x.number) w in
    Goes-watched one two trail m x.goes
    (here trail.steps trail.head (subst (λ (s : List Step). IsWatched one.atoms s trail.head (clause_at (map literals_of one.records) old.watched)) (all_of trail.steps) (each (length trail.steps) trail.head (omega arith) visits)))
    (λ level h. let k = x.goes.marks.each level h in here (take (mark_at trail.marks level).start trail.steps) (mark_at trail.marks level).head (each (mark_at trail.marks level).start (mark_at trail.marks level).head (let w = k.within in omega (arith, w)) k.visits))

-- the trail with the literal true, and with lowered marks
pub Examined-trail : (old one : Watches) (trail later : TrailState) → Examined old one trail → Goes (book_of one) later → later.atoms ≡ trail.atoms → Examined old one later
Examined-trail old one trail later x g e = record {
  watches = x.watches;
  goes = g;
  clauses = x.clauses;
  atoms = x.atoms;
  trail_atoms = e ∙ x.trail_atoms;
  number = x.number;
  within = x.within;
  some = x.some;
  is_record = x.is_record;
  is = x.is;
}

pub Goes-true : (old one two : Watches) (made low : TrailState) (position : ℕ) → Examined old one made → WatchesOneMore one two → Lowers made low position → IsPlaced made.steps (get_or (row_at one.records old.watched) 3 0) →
    ((visit : ℕ) → visit ≤ length made.steps → visit_at made.atoms made.steps visit ≡ get_or (row_at one.records old.watched) 4 0 → visit ≡ position) → Goes (book_of two) low
Goes-true old one two made low position x m l first only =
    let g = Goes-lowered (book_of one) made low position l x.goes in
    let steps : low.steps ≡ made.steps = ap (λ (t : TrailState). t.steps) l.others in
    let atoms : low.atoms ≡ made.atoms = ap (λ (t : TrailState). t.atoms) l.others in
    let y = Examined-trail old one made low x g atoms in
    let first' : IsPlaced low.steps (get_or (row_at one.records old.watched) 3 0) = subst (λ (s : List Step). IsPlaced s (get_or (row_at one.records old.watched) 3 0)) (sym steps) first in
    let only' : (visit : ℕ) → visit ≤ length low.steps → visit_at low.atoms low.steps visit ≡ get_or (row_at one.records old.watched) 4 0 → visit ≡ position =
    subst (λ (t : TrailState). (visit : ℕ) → visit ≤ length t.steps → visit_at t.atoms t.steps visit ≡ get_or (row_at one.records old.watched) 4 0 → visit ≡ position) (sym l.others) only in
    let each = watched_true old one low y first' position only' in
    let visits = g.marks.visits in
    let here : (s : List Step) (head : ℕ) → IsWatched one.atoms s head (clause_at (map literals_of one.records) old.watched) → IsWatched one.atoms s head (clause_at (map literals_of one.records) one.watched) = λ s head w. subst (λ (n : ℕ). IsWatched one.atoms s head (clause_at (map literals_of one.records) n)) (sym x.number) w in
    Goes-watched one two low m g
    (here low.steps low.head (subst (λ (s : List Step). IsWatched one.atoms s low.head (clause_at (map literals_of one.records) old.watched)) (all_of low.steps) (each (length low.steps) low.head (omega arith) visits (inl refl))))
    (λ level h.
    let k = g.marks.each level h in
    let e = l.as_many in
    let head = ap (λ (q : Mark). q.head) (l.low level (omega (arith, e, h))) in
    here (take (mark_at low.marks level).start low.steps) (mark_at low.marks level).head (each (mark_at low.marks level).start (mark_at low.marks level).head (let w = k.within in omega (arith, w)) k.visits (inr (omega (arith, head)))))

pub Propagates-from : (old one : Watches) (before after : TrailState) → AreWatches one → Goes (book_of one) after → SameClauses (map literals_of old.records) (map literals_of one.records) → one.atoms ≡ old.atoms → Extends before after → Propagates old one before after
Propagates-from old one before after w g c a e = record { watches = w; goes = g; clauses = c; atoms = a; extended = e }

pub SameClauses-one_more : (old one two : Watches) → SameClauses (map literals_of old.records) (map literals_of one.records) → WatchesOneMore one two → SameClauses (map literals_of old.records) (map literals_of two.records)
SameClauses-one_more old one two s m = subst (SameClauses (map literals_of old.records)) (sym m.clauses) s
