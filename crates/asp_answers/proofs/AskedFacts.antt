-- The work on a question as the trait has it.
use Rattle.std.proofs.Common.{◌≡◌, ℕ, Bool, false, List, [], ◌∷◌, ◌++◌, refl, sym, ap, ◌∙◌, subst, arith}
use Rattle.std.specs.Prelude.{Result, Ok, Err, OnOk, OnErr}
use Rattle.asp_bits.specs.Places.{true_places}
use Rattle.asp_defs.specs.declared.faults.Give.TheVariants as gives
use Rattle.asp_defs.specs.declared.faults.Kind.{Kind}
use Rattle.asp_defs.specs.declared.faults.Kind.TheVariants as kinds
use Rattle.asp_defs.specs.declared.faults.Unknown.{Unknown}
use Rattle.asp_defs.specs.declared.ground.Lit.{Lit}
use Rattle.asp_game.specs.State.{MovesState, Last, Asked, FoundMove, Gave, asked, with_blocked, with_kept, without_memory, refused_after, without_cube}
use Rattle.asp_game.specs.Answers.{IsFound, IsFirst, IsCore, KindRose, IsBlockable}
use Rattle.asp_completion.specs.declared.level.Level.{Level}
use Rattle.asp_completion.specs.Levels.{game_at}
use Rattle.asp_answers.specs.declared.work.Answered.{Answered}
use Rattle.asp_answers.specs.declared.work.Answered.TheVariants as answered
use Rattle.asp_answers.specs.declared.work.Work.{Work}
use Rattle.asp_answers.specs.AnswersState.{moves_at, state_at, unasked}
use Rattle.asp_answers.specs.Causes.{IsFewer, IsTrailCause, counts_with}
use Rattle.asp_answers.specs.Works.{Serves, IsAsked, IsSettled, IsCause, HasSpent, last_with, last_of, refused_by, question_of}
use Rattle.asp_answers.proofs.Steps.{found-alike, first-alike, core-alike, serves-asked}

-- an answer to the question, whatever was answered and spent before
pub at-question-found : (l : Level) (budget searches checks : ℕ) (w : Work) (set : List Bool) → IsFound (question_of l budget w) set
    → IsFound (moves_at l budget searches checks w) set
at-question-found l budget searches checks w set found =
    found-alike (question_of l budget w) (moves_at l budget searches checks w) set refl refl refl refl refl refl found

pub at-question-first : (l : Level) (budget searches checks : ℕ) (w : Work) (set : List Bool) → IsFirst (question_of l budget w) set
    → IsFirst (moves_at l budget searches checks w) set
at-question-first l budget searches checks w set found =
    first-alike (question_of l budget w) (moves_at l budget searches checks w) set refl found

pub at-question-core : (l : Level) (budget searches checks : ℕ) (w : Work) (core : List Lit) → IsCore (question_of l budget w) core
    → IsCore (moves_at l budget searches checks w) core
at-question-core l budget searches checks w core found =
    core-alike (question_of l budget w) (moves_at l budget searches checks w) core refl refl refl refl refl refl found

-- a spent budget
pub spent-fewer : (l : Level) (budget : ℕ) (w : Work) (u : Unknown) → HasSpent l budget w u → IsFewer l budget u
spent-fewer l budget w u spent = record { is = spent.is; few = spent.few; searched = go u.kind spent.cause }
  where
    go : (k : Kind) → IsCause k l budget w.search w.check → k ≡ kinds.Store → ⊥
    go kinds.Search c e = cc
    go kinds.Minimal c e = cc
    go kinds.Store c e = c

pub spent-cause : (l : Level) (budget searches checks : ℕ) (w : Work) (u : Unknown) → HasSpent l budget w u
    → IsTrailCause u.kind (state_at l budget searches checks w)
spent-cause l budget searches checks w u spent = go u.kind spent.cause
  where
    go : (k : Kind) → IsCause k l budget w.search w.check → IsTrailCause k (state_at l budget searches checks w)
    go kinds.Search c = c
    go kinds.Minimal c = c
    go kinds.Store c = c

-- the last answer was a move
pub last-some : (l : Level) (budget : ℕ) (set : List Bool) (a : Answered) (move : List ℕ)
    → last_with l budget set a ≡ FoundMove move → a ≡ answered.Found
last-some l budget set answered.Unasked move e = absurd (cc)
last-some l budget set answered.Nothing move e = absurd (cc)
last-some l budget set answered.Found move e = refl
last-some l budget set answered.Core move e = absurd (cc)
last-some l budget set (answered.Spent k) move e = absurd (cc)
last-some l budget set answered.NoMemory move e = absurd (cc)

-- before the first question
pub unasked-state : (l : Level) (budget : ℕ) (w : Work) → w.kept.items ≡ [] → w.outer ≡ [] → w.region ≡ [] → w.ordered ≡ false
    → w.blocked ≡ [] → w.last ≡ answered.Unasked → moves_at l budget 0 0 w ≡ unasked (game_at l) l.number budget
unasked-state l budget w kept outer region order blocked last =
    let parts : List (List Lit) → List Bool → List Lit → Bool → List (List Lit) → Answered → MovesState = λ k o r b c a.
    record (moves_at l budget 0 0 w) {
      kept = k;
      outer = true_places o;
      region = r;
      ordered = b;
      blocked = c;
      last = last_with l budget w.set a;
    } in
    ap (λ (k : List (List Lit)). parts k w.outer w.region w.ordered w.blocked w.last) kept
    ∙ (ap (λ (o : List Bool). parts [] o w.region w.ordered w.blocked w.last) outer
    ∙ (ap (λ (r : List Lit). parts [] [] r w.ordered w.blocked w.last) region
    ∙ (ap (λ (b : Bool). parts [] [] [] b w.blocked w.last) order
    ∙ (ap (λ (c : List (List Lit)). parts [] [] [] false c w.last) blocked
    ∙ ap (λ (a : Answered). parts [] [] [] false [] a) last))))

-- a new question
pub begun-state : (l : Level) (budget searches checks : ℕ) (old w : Work) (outer : List Bool) (region : List Lit)
    (ordered : Bool) → w.outer ≡ outer → w.region ≡ region → w.blocked ≡ [] → w.last ≡ answered.Nothing → w.ordered ≡ ordered → w.kept.items ≡ old.kept.items
    → moves_at l budget searches checks w ≡ asked (moves_at l budget searches checks old) (true_places outer) region ordered
begun-state l budget searches checks old w outer region ordered outer_is region_is blocked_is last_is order kept =
    let parts : List Bool → List Lit → Bool → List (List Lit) → List (List Lit) → Last → MovesState = λ o r b k c a.
    record (moves_at l budget searches checks old) { outer = true_places o; region = r; ordered = b; kept = k; blocked = c; last = a } in
    ap (λ (o : List Bool). parts o w.region w.ordered w.kept.items w.blocked (last_with l budget w.set w.last)) outer_is
    ∙ (ap (λ (r : List Lit). parts outer r w.ordered w.kept.items w.blocked (last_with l budget w.set w.last)) region_is
    ∙ (ap (λ (c : List (List Lit)). parts outer region w.ordered w.kept.items c (last_with l budget w.set w.last)) blocked_is
    ∙ (ap (λ (a : Answered). parts outer region w.ordered w.kept.items [] (last_with l budget w.set a)) last_is
    ∙ (ap (λ (b : Bool). parts outer region b w.kept.items [] Asked) order
    ∙ ap (λ (k : List (List Lit)). parts outer region ordered k [] Asked) kept))))

-- a question that goes on
pub next-state : (l : Level) (budget searches checks later more : ℕ) (old new : Work) → new.outer ≡ old.outer
    → new.region ≡ old.region → new.ordered ≡ old.ordered → new.kept.items ≡ old.kept.items → new.blocked ≡ old.blocked
    → moves_at l budget later more new
    ≡ record (moves_at l budget searches checks old) { last = last_of l budget new; searches = later; checks = more }
next-state l budget searches checks later more old new outer region order kept blocked =
    let parts : List Bool → List Lit → Bool → List (List Lit) → List (List Lit) → MovesState = λ o r b k c.
    record (moves_at l budget later more new) { outer = true_places o; region = r; ordered = b; kept = k; blocked = c } in
    ap (λ (o : List Bool). parts o new.region new.ordered new.kept.items new.blocked) outer
    ∙ (ap (λ (r : List Lit). parts old.outer r new.ordered new.kept.items new.blocked) region
    ∙ (ap (λ (b : Bool). parts old.outer old.region b new.kept.items new.blocked) order
    ∙ (ap (λ (k : List (List Lit)). parts old.outer old.region old.ordered k new.blocked) kept
    ∙ ap (λ (c : List (List Lit)). parts old.outer old.region old.ordered old.kept.items c) blocked)))

-- a spent budget was counted
pub rose-after : (l : Level) (budget searches checks : ℕ) (old new : Work) (u : Unknown)
    → (u.kind ≡ kinds.Store → ⊥)
    → KindRose u.kind (moves_at l budget searches checks old)
    (moves_at l budget ((counts_with u.kind searches checks).searches) ((counts_with u.kind searches checks).checks) new)
rose-after l budget searches checks old new u searched = go u.kind searched
  where
    go : (k : Kind) → (k ≡ kinds.Store → ⊥) → KindRose k (moves_at l budget searches checks old)
        (moves_at l budget ((counts_with k searches checks).searches) ((counts_with k searches checks).checks) new)
    go kinds.Search h = omega arith
    go kinds.Minimal h = omega arith
    go kinds.Store h = h refl

-- one more cube is blocked, or memory was refused
module _ (l : Level) (budget searches checks : ℕ) (old new : Work) (outer : new.outer ≡ old.outer) (region : new.region ≡ old.region)
    (order : new.ordered ≡ old.ordered) where
  abbrev parts : List Bool → List Lit → Bool → List (List Lit) → List (List Lit) → Last → MovesState
  parts o r b k c a =
      record (moves_at l budget searches checks old) { outer = true_places o; region = r; ordered = b; kept = k; blocked = c; last = a }

  moved : (kept blocked : List (List Lit)) (last : Last) → new.kept.items ≡ kept → new.blocked ≡ blocked → last_of l budget new ≡ last
      → parts new.outer new.region new.ordered new.kept.items new.blocked (last_of l budget new)
      ≡ parts old.outer old.region old.ordered kept blocked last
  moved kept blocked last kept_is blocked_is last_is =
      ap (λ (o : List Bool). parts o new.region new.ordered new.kept.items new.blocked (last_of l budget new)) outer
      ∙ (ap (λ (r : List Lit). parts old.outer r new.ordered new.kept.items new.blocked (last_of l budget new)) region
      ∙ (ap (λ (b : Bool). parts old.outer old.region b new.kept.items new.blocked (last_of l budget new)) order
      ∙ (ap (λ (k : List (List Lit)). parts old.outer old.region old.ordered k new.blocked (last_of l budget new)) kept_is
      ∙ (ap (λ (c : List (List Lit)). parts old.outer old.region old.ordered kept c (last_of l budget new)) blocked_is
      ∙ ap (λ (a : Last). parts old.outer old.region old.ordered kept blocked a) last_is))))

  same-last : new.set ≡ old.set → new.last ≡ old.last → last_of l budget new ≡ last_of l budget old
  same-last set last = ap (λ (s : List Bool). last_with l budget s new.last) set ∙ ap (last_with l budget old.set) last

  pub blocked-state : (cube : List Lit) → new.kept.items ≡ old.kept.items → new.set ≡ old.set → new.last ≡ old.last
      → new.blocked ≡ old.blocked ++ cube ∷ []
      → moves_at l budget searches checks new ≡ with_blocked (moves_at l budget searches checks old) cube
  blocked-state cube kept set last blocked =
      moved old.kept.items (old.blocked ++ cube ∷ []) (last_of l budget old) kept blocked (same-last set last)

  pub kept-state : (cube : List Lit) → new.kept.items ≡ old.kept.items ++ cube ∷ [] → new.set ≡ old.set → new.last ≡ old.last
      → new.blocked ≡ old.blocked → moves_at l budget searches checks new ≡ with_kept (moves_at l budget searches checks old) cube
  kept-state cube kept set last blocked =
      moved (old.kept.items ++ cube ∷ []) old.blocked (last_of l budget old) kept blocked (same-last set last)

  pub refused-state : new.kept.items ≡ old.kept.items → new.blocked ≡ old.blocked → new.last ≡ answered.NoMemory
      → moves_at l budget searches checks new ≡ without_memory (moves_at l budget searches checks old)
  refused-state kept blocked last =
      moved old.kept.items old.blocked (Gave gives.NoMemory) kept blocked (ap (last_with l budget new.set) last)

  pub uncubed-state : new.kept.items ≡ old.kept.items → new.blocked ≡ old.blocked → new.last ≡ refused_by old.last
      → moves_at l budget searches checks new ≡ without_cube (moves_at l budget searches checks old)
  uncubed-state kept blocked last =
      moved old.kept.items old.blocked (refused_after (last_of l budget old)) kept blocked
      (ap (last_with l budget new.set) last ∙ go old.last)
    where
      go : (a : Answered) → last_with l budget new.set (refused_by a) ≡ refused_after (last_with l budget old.set a)
      go answered.Unasked = refl
      go answered.Nothing = refl
      go answered.Found = refl
      go answered.Core = refl
      go (answered.Spent k) = refl
      go answered.NoMemory = refl

-- where the last answer was a move, the search stands; and what a block leaves is settled
pub blockable-found : (l : Level) (budget : ℕ) (w : Work) (cube : List Lit) → IsBlockable (moves_at l budget 0 0 w) cube
    → w.last ≡ answered.Found
blockable-found l budget w cube r = last-some l budget w.set w.last r.set r.found

pub blockable-asked : (l : Level) (budget : ℕ) (w : Work) (cube : List Lit) → IsSettled l budget w
    → IsBlockable (moves_at l budget 0 0 w) cube → IsAsked l budget w
blockable-asked l budget w cube settled r =
    let found : w.last ≡ answered.Found = blockable-found l budget w cube r in
    settled.asked (λ unasked. cc) (λ refused. cc)

pub settled-found : (l : Level) (budget : ℕ) (w : Work) → IsAsked l budget w → w.last ≡ answered.Found → IsSettled l budget w
settled-found l budget w asked found = record { serves = serves-asked l budget w asked; asked = λ put given. asked; spent = λ k e. absurd (cc) }

pub settled-refused : (l : Level) (budget : ℕ) (w : Work) → Serves l budget w.kept.items w.search → w.last ≡ answered.NoMemory
    → IsSettled l budget w
settled-refused l budget w serves refused = record {
  serves = serves;
  asked = λ put given. absurd (given refused);
  spent = λ k e. absurd (cc);
}

-- a cube that was refused
pub settled-uncubed : (l : Level) (budget : ℕ) (w : Work) (was : Answered) → Serves l budget w.kept.items w.search → w.last ≡ refused_by was
    → IsSettled l budget w
settled-uncubed l budget w was serves refused = record {
  serves = serves;
  asked = λ put given. absurd (go was refused put given);
  spent = λ k e. absurd (none was (sym refused ∙ e));
}
  where
    go : (a : Answered) → w.last ≡ refused_by a → (w.last ≡ answered.Unasked → ⊥) → (w.last ≡ answered.NoMemory → ⊥) → ⊥
    go answered.Unasked e put given = put e
    go answered.Nothing e put given = given e
    go answered.Found e put given = given e
    go answered.Core e put given = given e
    go (answered.Spent k) e put given = given e
    go answered.NoMemory e put given = given e

    none : (a : Answered) {k : Kind} → refused_by a ≡ answered.Spent k → ⊥
    none answered.Unasked e = cc
    none answered.Nothing e = cc
    none answered.Found e = cc
    none answered.Core e = cc
    none (answered.Spent k) e = cc
    none answered.NoMemory e = cc

-- before the first question
pub settled-unasked : (l : Level) (budget : ℕ) (w : Work) → Serves l budget w.kept.items w.search → w.last ≡ answered.Unasked
    → IsSettled l budget w
settled-unasked l budget w serves unasked = record {
  serves = serves;
  asked = λ put given. absurd (put unasked);
  spent = λ k e. absurd (cc);
}

-- a new question
pub settled-asked : (l : Level) (budget : ℕ) (w : Work) → IsAsked l budget w → w.last ≡ answered.Nothing → IsSettled l budget w
settled-asked l budget w asked last = record { serves = serves-asked l budget w asked; asked = λ put given. asked; spent = λ k e. absurd (cc) }

pub settled-again : {T E : Type 0} (l : Level) (budget : ℕ) (r : Result T E) (old new : Work) → OnOk r (IsAsked l budget new)
    → OnOk r (new.last ≡ answered.Nothing) → OnErr r (new ≡ old) → IsSettled l budget old → IsSettled l budget new
settled-again l budget (Ok x) old new asked last same settled = settled-asked l budget new asked last
settled-again l budget (Err e) old new asked last same settled = subst (λ (w : Work). IsSettled l budget w) (sym same) settled

pub begun-again : {T E : Type 0} (l : Level) (budget : ℕ) (r : Result T E) (old w : Work) (outer : List Bool) (region : List Lit)
    (ordered : Bool) → OnOk r (w.outer ≡ outer) → OnOk r (w.region ≡ region) → OnOk r (w.blocked ≡ []) → OnOk r (w.last ≡ answered.Nothing)
    → OnOk r (w.ordered ≡ ordered) → w.kept.items ≡ old.kept.items
    → OnOk r ((searches checks : ℕ) → moves_at l budget searches checks w
    ≡ asked (moves_at l budget searches checks old) (true_places outer) region ordered)
begun-again l budget (Ok x) old w outer region ordered outer_is region_is blocked_is last_is order kept = λ searches checks.
    begun-state l budget searches checks old w outer region ordered outer_is region_is blocked_is last_is order kept
begun-again l budget (Err e) old w outer region ordered outer_is region_is blocked_is last_is order kept = tt
