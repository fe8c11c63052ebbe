-- What the steps of the core machine keep: the history stays legal and within the cells and only grows, and each member has
-- seen a prefix of it, which only grows too.
use Rattle.std.proofs.Common.{ℕ, suc, zero, ◌+◌, ◌≤◌, ◌≡◌, refl, sym, ◌∙◌, ap, subst, inl, inr, Bool, true, false, ◌&&◌, ◌⊎◌, if◌then◌else◌, List, [], ◌∷◌, ◌++◌, length, get_or, set, take, drop, arith, nat_le, append-nil, length-append, take-append-drop}
use Rattle.std.proofs.lemmas.Bool.{leb-true}
use Rattle.std.proofs.lemmas.List.Sums.{sum_by-append, sum_by-cons}
use Rattle.asp_defs.specs.declared.ground.Game.{Game}
use Rattle.asp_defs.specs.Entries.{Entry, is_entry, cost}
use Rattle.asp_defs.specs.History.{is_held, is_justified, cells}
use Rattle.asp_defs.specs.Machine.{Member, State, Event, Look, Add, Fork, End, start, member, may_happen, looked, appended, step, may_run, run}
use Rattle.asp_defs.specs.Laws.{IsOrderly, IsLater, RunsStayLegal, StepsKeepWhatWasSeen}
use Rattle.asp_defs.proofs.Lists.{both}
use Rattle.asp_defs.proofs.HistoryLaws.{justifications_stay, legal-one_more}

-- ---- members

-- a member after a list was set at a place, or became longer by one
set-cases : {A : Type 0} (xs : List A) (m k : ℕ) (x d : A) → ((k ≡ m) × (get_or (set xs m x) k d ≡ x)) ⊎ (get_or (set xs m x) k d ≡ get_or xs k d)
set-cases [] m k x d = inr refl
set-cases (y ∷ ys) zero zero x d = inl (refl, refl)
set-cases (y ∷ ys) zero (suc k) x d = inr refl
set-cases (y ∷ ys) (suc m) zero x d = inr refl
set-cases (y ∷ ys) (suc m) (suc k) x d = elim (set-cases ys m k x d) [
  | inl here ↦ inl (ap suc here.0, here.1)
  | inr other ↦ inr other
]

push-cases : {A : Type 0} (xs : List A) (k : ℕ) (x d : A) → ((get_or xs k d ≡ d) × (get_or (xs ++ (x ∷ [])) k d ≡ x)) ⊎ (get_or (xs ++ (x ∷ [])) k d ≡ get_or xs k d)
push-cases [] zero x d = inl (refl, refl)
push-cases [] (suc k) x d = inr refl
push-cases (y ∷ ys) zero x d = inr refl
push-cases (y ∷ ys) (suc k) x d = push-cases ys k x d

abbrev nobody : Member
nobody = record { lives = false; seen = 0 }

-- each member has seen a prefix
abbrev SeenWithin : State → Type 0
SeenWithin s = (m : ℕ) → (member s m).seen ≤ length s.history

looked-within : (s : State) (m : ℕ) → SeenWithin s → SeenWithin (looked s m)
looked-within s m h k = elim (set-cases s.members m k (record { lives = (member s m).lives; seen = length s.history }) nobody) [
  | inl here ↦
      let now : (member (looked s m) k).seen ≡ length s.history = ap (λ (x : Member). x.seen) here.1 in omega arith
  | inr other ↦
      let same : (member (looked s m) k).seen ≡ (member s k).seen = ap (λ (x : Member). x.seen) other in
      let before : (member s k).seen ≤ length s.history = h k in
      omega arith
]

looked-later : (s : State) (m k : ℕ) → SeenWithin s → (member s k).seen ≤ (member (looked s m) k).seen
looked-later s m k h = elim (set-cases s.members m k (record { lives = (member s m).lives; seen = length s.history }) nobody) [
  | inl here ↦
      let now : (member (looked s m) k).seen ≡ length s.history = ap (λ (x : Member). x.seen) here.1 in
      let before : (member s k).seen ≤ length s.history = h k in
      omega arith
  | inr other ↦
      let same : (member (looked s m) k).seen ≡ (member s k).seen = ap (λ (x : Member). x.seen) other in omega arith
]

-- the state with an entry appended, before its member has seen it
abbrev longer : State → Entry → State
longer s e = record { history = s.history ++ (e ∷ []); members = s.members }

longer-within : (s : State) (e : Entry) → SeenWithin s → SeenWithin (longer s e)
longer-within s e h m =
    let before : (member s m).seen ≤ length s.history = h m in
    let more : length (s.history ++ (e ∷ [])) ≡ length s.history + length (e ∷ []) = length-append s.history (e ∷ []) in
    let same : (member (longer s e) m).seen ≡ (member s m).seen = refl in
    omega arith

-- a fork's member has seen what the forking one has
abbrev forked : State → ℕ → State
forked s m = record {
  history = s.history;
  members = s.members ++ (record { lives = true; seen = (member s m).seen } ∷ []);
}

forked-within : (s : State) (m : ℕ) → SeenWithin s → SeenWithin (forked s m)
forked-within s m h k = elim (push-cases s.members k (record { lives = true; seen = (member s m).seen }) nobody) [
  | inl here ↦
      let now : (member (forked s m) k).seen ≡ (member s m).seen = ap (λ (x : Member). x.seen) here.1 in
      let before : (member s m).seen ≤ length s.history = h m in
      omega arith
  | inr other ↦
      let same : (member (forked s m) k).seen ≡ (member s k).seen = ap (λ (x : Member). x.seen) other in
      let before : (member s k).seen ≤ length s.history = h k in
      omega arith
]

forked-later : (s : State) (m k : ℕ) → (member s k).seen ≤ (member (forked s m) k).seen
forked-later s m k = elim (push-cases s.members k (record { lives = true; seen = (member s m).seen }) nobody) [
  | inl here ↦ let none : (member s k).seen ≡ 0 = ap (λ (x : Member). x.seen) here.0 in omega arith
  | inr other ↦
      let same : (member (forked s m) k).seen ≡ (member s k).seen = ap (λ (x : Member). x.seen) other in omega arith
]

-- a member that ends has seen what it had
abbrev ended : State → ℕ → State
ended s m = record {
  history = s.history;
  members = set s.members m (record { lives = false; seen = (member s m).seen });
}

ended-same : (s : State) (m k : ℕ) → (member (ended s m) k).seen ≡ (member s k).seen
ended-same s m k = elim (set-cases s.members m k (record { lives = false; seen = (member s m).seen }) nobody) [
  | inl here ↦
      let now : (member (ended s m) k).seen ≡ (member s m).seen = ap (λ (x : Member). x.seen) here.1 in
      let whose : (member s m).seen ≡ (member s k).seen = ap (λ (n : ℕ). (member s n).seen) (sym here.0) in
      now ∙ whose
  | inr other ↦ ap (λ (x : Member). x.seen) other
]

-- ---- additions

-- what an addition needs
record Addition (g : Game) (s : State) (m : ℕ) (e : Entry) : Type 0 where
  formed : is_entry g e ≡ true
  justified : is_justified g s.history e ≡ true

addition : (g : Game) (s : State) (m : ℕ) (e : Entry) → may_happen g s (Add m e) ≡ true → Addition g s m e
addition g s m e may =
    let seen = (member s m).seen in
    let one = both (member s m).lives (is_entry g e && is_justified g (take seen s.history) e) may in
    let two = both (is_entry g e) (is_justified g (take seen s.history) e) one.1 in
    record {
      formed = two.0;
      justified = subst (λ (H : List Entry). is_justified g H e ≡ true) (take-append-drop seen s.history) (justifications_stay g (take seen s.history) (drop seen s.history) e two.1);
    }

appended-orderly : (g : Game) (allowed : ℕ) (s : State) (m : ℕ) (e : Entry) → IsOrderly g allowed s → Addition g s m e → is_held s.history e.level e.seed ≡ false → cells s.history + cost e ≤ allowed → IsOrderly g allowed (appended s m e)
appended-orderly g allowed s m e o a fresh fits =
    let sum : cells (s.history ++ (e ∷ [])) ≡ cells s.history + cells (e ∷ []) = sum_by-append cost s.history (e ∷ []) in
    let one : cells (e ∷ []) ≡ cost e + cells [] = sum_by-cons cost e [] in
    record {
      legal = legal-one_more g s.history e o.legal a.formed a.justified fresh;
      within_cells = omega (arith, sum, one, fits);
      seen = looked-within (longer s e) m (longer-within s e o.seen);
    }

added-orderly : (g : Game) (allowed : ℕ) (s : State) (m : ℕ) (e : Entry) → IsOrderly g allowed s → Addition g s m e → (held fits : Bool) → is_held s.history e.level e.seed ≡ held → nat_le (cells s.history + cost e) allowed ≡ fits → IsOrderly g allowed (if held then looked s m else if fits then appended s m e else s)
added-orderly g allowed s m e o a true fits known enough = record { legal = o.legal; within_cells = o.within_cells; seen = looked-within s m o.seen }
added-orderly g allowed s m e o a false true fresh enough = appended-orderly g allowed s m e o a fresh (leb-true (cells s.history + cost e) allowed enough)
added-orderly g allowed s m e o a false false fresh full = o

step-orderly : (g : Game) (allowed : ℕ) (s : State) (event : Event) → IsOrderly g allowed s → may_happen g s event ≡ true → IsOrderly g allowed (step allowed s event)
step-orderly g allowed s (Look m) o may = record { legal = o.legal; within_cells = o.within_cells; seen = looked-within s m o.seen }
step-orderly g allowed s (Add m e) o may = added-orderly g allowed s m e o (addition g s m e may) (is_held s.history e.level e.seed) (nat_le (cells s.history + cost e) allowed) refl refl
step-orderly g allowed s (Fork m) o may = record { legal = o.legal; within_cells = o.within_cells; seen = forked-within s m o.seen }
step-orderly g allowed s (End m) o may = record {
  legal = o.legal;
  within_cells = o.within_cells;
  seen = λ k.
      let same : (member (ended s m) k).seen ≡ (member s k).seen = ended-same s m k in
      let before : (member s k).seen ≤ length s.history = o.seen k in
      omega arith;
}

run-orderly : (g : Game) (allowed : ℕ) (s : State) (events : List Event) → IsOrderly g allowed s → may_run g allowed s events ≡ true → IsOrderly g allowed (run allowed s events)
run-orderly g allowed s [] o may = o
run-orderly g allowed s (event ∷ events) o may =
    let parts = both (may_happen g s event) (may_run g allowed (step allowed s event) events) may in
    run-orderly g allowed (step allowed s event) events (step-orderly g allowed s event o parts.0) parts.1

start-seen : (m : ℕ) → (member start m).seen ≡ 0
start-seen zero = refl
start-seen (suc m) = refl

pub runs_stay_legal : RunsStayLegal
runs_stay_legal g allowed events may =
    run-orderly g allowed start events
    (record {
      legal = refl;
      within_cells = omega arith;
      seen = λ m. let none : (member start m).seen ≡ 0 = start-seen m in omega arith;
    })
    may

-- ---- what was seen stays

same_history : (s t : State) → t.history ≡ s.history → (more : List Entry) × (t.history ≡ s.history ++ more)
same_history s t e = ([], e ∙ sym (append-nil s.history))

added-later : (s : State) (m : ℕ) (e : Entry) → SeenWithin s → (held fits : Bool) → IsLater s (if held then looked s m else if fits then appended s m e else s)
added-later s m e h true fits = record { longer = same_history s (looked s m) refl; seen = λ k. looked-later s m k h }
added-later s m e h false true = record { longer = (e ∷ [], refl); seen = λ k. looked-later (longer s e) m k (longer-within s e h) }
added-later s m e h false false = record { longer = same_history s s refl; seen = λ k. omega arith }

pub steps_keep_what_was_seen : StepsKeepWhatWasSeen
steps_keep_what_was_seen allowed s (Look m) h = record { longer = same_history s (looked s m) refl; seen = λ k. looked-later s m k h }
steps_keep_what_was_seen allowed s (Add m e) h = added-later s m e h (is_held s.history e.level e.seed) (nat_le (cells s.history + cost e) allowed)
steps_keep_what_was_seen allowed s (Fork m) h = record { longer = same_history s (forked s m) refl; seen = λ k. forked-later s m k }
steps_keep_what_was_seen allowed s (End m) h = record {
  longer = same_history s (ended s m) refl;
  seen = λ k. let same : (member (ended s m) k).seen ≡ (member s k).seen = ended-same s m k in omega arith;
}
